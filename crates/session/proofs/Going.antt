-- The session after so many chunks is the one that they leave one after another; they are what was read meanwhile, and their answers what was
-- written. Assumes nothing.
use mathlib.Core.Path.{◌≡◌, refl, sym, ap, subst, ◌∙◌}
use mathlib.Core.List.{List, [], ◌∷◌, ◌++◌, append_assoc, append-nil}
use Prim.Native.Nat.{ℕ, ◌%◌}
use lib.ListN.{length}
use Rattle.std.proofs.Common.{Option, IfSome}
use Rattle.std.specs.Io.KnownBytes.{Consumes, Appends, IsAtEnd}
use Rattle.std.proofs.KnownBytes.{Consumes-nil, Consumes-trans, Consumes-whole, Appends-nil, Appends-trans}
use Rattle.method.specs.declared.Row.{Row}
use Rattle.method.specs.told.Text.{text_of}
use Rattle.method.proofs.Text.{text-append}
use Rattle.corridor.specs.declared.Session.{Session}
use Rattle.corridor.specs.View.{Valid}
use Rattle.feeding.specs.Feeding.{rows_for, left_by}
use Rattle.feeding.specs.Chunks.{all_bytes, WholeButLast, rows_in, left_in}
use Rattle.feeding.proofs.Chunks.{valid-left}
use Rattle.session.specs.Chunks.{Reached}
use Rattle.session.specs.Printing.{told_text, TellsChunks}

abbrev AllWhole : List (List ℕ) → Type 0
AllWhole [] = Unit {0}
AllWhole (c ∷ cs) = (length c % 20 ≡ 0) × AllWhole cs

-- one chunk more
module _ (c : List ℕ) where
  all_whole_on : (cs : List (List ℕ)) → AllWhole cs → length c % 20 ≡ 0 → AllWhole (cs ++ (c ∷ []))
  all_whole_on [] w h = (h, tt)
  all_whole_on (d ∷ cs) w h = (w.0, all_whole_on cs w.1 h)

  whole_but_last_on : (cs : List (List ℕ)) → AllWhole cs → WholeButLast (cs ++ (c ∷ []))
  whole_but_last_on [] w = tt
  whole_but_last_on (d ∷ []) w = (w.0, tt)
  whole_but_last_on (d ∷ e ∷ cs) w = (w.0, whole_but_last_on (e ∷ cs) w.1)

  left_in_on : (s : Session) (cs : List (List ℕ)) → left_in s (cs ++ (c ∷ [])) ≡ left_by (left_in s cs) c
  unfolding left_in
  left_in_on s [] = refl
  left_in_on s (d ∷ cs) = left_in_on (left_by s d) cs

  bytes_on : (cs : List (List ℕ)) → all_bytes cs ++ c ≡ all_bytes (cs ++ (c ∷ []))
  bytes_on [] = sym (append-nil c)
  bytes_on (d ∷ cs) = append_assoc d (all_bytes cs) c ∙ ap (λ (b : List ℕ). d ++ b) (bytes_on cs)

  rows_on : (s : Session) (cs : List (List ℕ)) → rows_in s cs ++ rows_for (left_in s cs) c ≡ rows_in s (cs ++ (c ∷ []))
  unfolding rows_in left_in
  rows_on s [] = sym (append-nil (rows_for s c))
  rows_on s (d ∷ cs) =
      append_assoc (rows_for s d) (rows_in (left_by s d) cs) (rows_for (left_in (left_by s d) cs) c)
      ∙ ap (λ (rows : List Row). rows_for s d ++ rows) (rows_on (left_by s d) cs)

whole_but_last : (cs : List (List ℕ)) → AllWhole cs → WholeButLast cs
whole_but_last [] w = tt
whole_but_last (c ∷ []) w = tt
whole_but_last (c ∷ d ∷ cs) w = (w.0, whole_but_last (d ∷ cs) w.1)

valid_in : (s : Session) (cs : List (List ℕ)) → Valid s → Valid (left_in s cs)
unfolding left_in
valid_in s [] v = v
valid_in s (c ∷ cs) v = valid_in (left_by s c) cs (valid-left s c v)

-- the session, what is left of the input and what the output holds, after chunks of whole events
pub record Going (first s : Session) (input rest before after : Option (List ℕ)) : Type 0 where
  pub chunks : List (List ℕ)
  pub whole : AllWhole chunks
  pub left : s ≡ left_in first chunks
  pub read : Consumes input rest (all_bytes chunks)
  pub told : Appends before after (text_of (rows_in first chunks))

pub nothing_read : (first : Session) (input before : Option (List ℕ)) → Going first first input input before before
unfolding left_in rows_in
nothing_read first input before =
    record { chunks = []; whole = tt; left = refl; read = Consumes-nil input; told = Appends-nil before }

pub reached-valid : {first s : Session} → Valid first → Reached first s → Valid s
reached-valid {first} v q = rw q.left (valid_in first q.chunks v)

module _ {first s : Session} {input rest before after : Option (List ℕ)} (g : Going first s input rest before after) where
  pub reached : Reached first s
  reached = record { chunks = g.chunks; whole = whole_but_last g.chunks g.whole; left = g.left }

  module _ {next : Session} (c : List ℕ) (e : next ≡ left_by s c) where
    abbrev more : List (List ℕ)
    more = g.chunks ++ (c ∷ [])

    left-more : next ≡ left_in first more
    left-more = e ∙ rw (g.left, left_in_on c first g.chunks)

    pub reached-more : Reached first next
    reached-more = record { chunks = more; whole = whole_but_last_on c g.chunks g.whole; left = left-more }

    module _ (unread held : Option (List ℕ)) (taken : Consumes rest unread c) (said : Appends after held (told_text s c)) where
      read-more : Consumes input unread (all_bytes more)
      read-more = subst (Consumes input unread) (bytes_on c g.chunks) (Consumes-trans _ _ _ _ _ g.read taken)

      text-more : text_of (rows_in first g.chunks) ++ told_text s c ≡ text_of (rows_in first more)
      text-more =
          ap (λ (x : Session). text_of (rows_in first g.chunks) ++ told_text x c) g.left
          ∙ sym (text-append (rows_in first g.chunks) (rows_for (left_in first g.chunks) c)) ∙ ap text_of (rows_on c first g.chunks)

      told-more : Appends before held (text_of (rows_in first more))
      told-more = subst (Appends before held) text-more (Appends-trans _ _ _ _ _ g.told said)

      pub going_on : length c ≡ 40_960 → Going first next input unread before held
      going_on h =
          record { chunks = more; whole = all_whole_on c g.chunks g.whole (rw h); left = left-more; read = read-more; told = told-more }

      -- the input's end
      pub all_told : IsAtEnd unread → IfSome input (TellsChunks first next before held)
      all_told ended =
          Consumes-whole _ _ _ (TellsChunks first next before held) read-more ended
          (record {
            chunks = more;
            cut = record { whole = whole_but_last_on c g.chunks g.whole; all = refl };
            left = left-more;
            told = told-more;
          })
