-- A buffer of events, cut into them.
use Rattle.std.specs.Prelude.{◌≡◌, cond, List, ◌∷◌, ℕ, ◌+◌, ◌-◌, ◌<◌, ltb, length, take, drop}
use Rattle.method.specs.told.Program.{events_of}

-- where the event ends that begins at `from`: after 20 bytes, or with the buffer
abbrev pub cut_at : ℕ → ℕ → ℕ
cut_at from size = cond (ltb (size - from) 20) size (from + 20)

-- Of a buffer's events, which `feed` takes in turn, the one that begins at `from` ends where `cut` says, and the next one begins there.
-- [events_are_cut, in proofs/Cutting]
abbrev pub EventsAreCut : Type 0
EventsAreCut =
    (b : List ℕ) (from : ℕ) → from < length b
    → events_of (drop from b) ≡ take (cut_at from (length b) - from) (drop from b) ∷ events_of (drop (cut_at from (length b)) b)
