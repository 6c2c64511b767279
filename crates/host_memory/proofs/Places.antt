-- One place of a session in memory: the head or a line that is read there, and what is written. Assumes nothing.
use mathlib.Core.Path.{◌≡◌, refl, sym, ap, ◌∙◌}
use mathlib.Core.List.{List, [], ◌∷◌, map}
use Prim.Native.Nat.{ℕ, zero, suc, ◌<◌, ◌≤◌}
use native.Mathlib.Omega.{arith}
use lib.ListN.{length, get_or, set, take, length-map, get_or-map}
use lib.Seq.{get_or-take, length-take-le, take-set-le, take-set-lt, get_or-set_same, get_or-set_other}
use Rattle.std.proofs.lemmas.List.{take-map, take-take}
use Rattle.method.specs.words.Types.{blank}
use Rattle.corridor.specs.View.{with_line}
use Rattle.host_row.specs.Packed.{no_row, line_in, head_in}
use Rattle.host_memory.specs.Names.{Line, Head}
use Rattle.host_memory.specs.Memory.{Memory, no_pair, head_of, session_of, session_in}

-- ---- the head is read
pub head_is : (pairs : Memory) {h : Head} → h ≡ head_in (head_of pairs) → session_in pairs ≡ session_of (session_in pairs).lines h
unfolding session_in
head_is pairs e = ap (session_of (map line_in (take 32 pairs))) (sym e)

-- ---- a line is read
pub full_in : (pairs : Memory) → length pairs ≡ 33 → length (session_in pairs).lines ≡ 32
unfolding session_in
full_in pairs h = length-map (take 32 pairs) line_in ∙ length-take-le 32 pairs (omega arith)

-- what is read within a list does not hang on what would stand past its end
pub within : {A : Type 0} (xs : List A) (i : ℕ) (d e : A) → i < length xs → get_or xs i d ≡ get_or xs i e
within [] i d e h = absurd (never i h)
  where
    never : (n : ℕ) → n < 0 → ⊥
    never n h = omega arith
within (x ∷ xs) zero d e h = refl
within (x ∷ xs) (suc i) d e h = within xs i d e (omega arith)

pub line-is : (pairs : Memory) (i : ℕ) → length pairs ≡ 33 → i < 32 → get_or (session_in pairs).lines i blank ≡ line_in (get_or pairs i no_pair)
unfolding session_in
line-is pairs i n h =
    within (map line_in (take 32 pairs)) i blank (line_in no_pair) (omega (arith, full_in pairs n))
    ∙ get_or-map line_in (take 32 pairs) i no_pair ∙ ap line_in (get_or-take 32 pairs i no_pair h)

-- ---- a line is written
map-set : {A B : Type 0} (f : A → B) (xs : List A) (i : ℕ) (x : A) → map f (set xs i x) ≡ set (map f xs) i (f x)
map-set f [] i x = refl
map-set f (y ∷ xs) zero x = refl
map-set f (y ∷ xs) (suc i) x = ap (λ (zs : List _). f y ∷ zs) (map-set f xs i x)

pub line_stored : (pairs : Memory) (p : ℕ) (pair : List (List ℕ)) (m : Line) → p < 32 → line_in pair ≡ m → session_in (set pairs p pair) ≡ with_line (session_in pairs) p m
unfolding session_in
line_stored pairs p pair m h e =
    ap (λ (ls : List Line). session_of ls (head_in (head_of (set pairs p pair)))) (ap (map line_in) (take-set-lt 32 pairs p pair h) ∙ map-set line_in (take 32 pairs) p pair)
    ∙ ap (λ (l : Line). session_of (set (map line_in (take 32 pairs)) p l) (head_in (head_of (set pairs p pair)))) e
    ∙ ap (λ (r : List (List ℕ)). session_of (set (map line_in (take 32 pairs)) p m) (head_in (get_or r 0 no_row))) (get_or-set_other pairs p 32 pair no_pair other)
  where
    other : 32 ≡ p → ⊥
    other q = omega arith

-- ---- the head is written
pub head_stored : (pairs : Memory) (pair : List (List ℕ)) {h : Head} → length pairs ≡ 33 → head_in (get_or pair 0 no_row) ≡ h → session_in (set pairs 32 pair) ≡ session_of (session_in pairs).lines h
unfolding session_in
head_stored pairs pair long e =
    ap (λ (ls : List Line). session_of ls (head_in (head_of (set pairs 32 pair)))) (ap (map line_in) (take-set-le 32 pairs 32 pair (omega arith)))
    ∙ ap (session_of (map line_in (take 32 pairs))) (ap (λ (r : List (List ℕ)). head_in (get_or r 0 no_row)) (get_or-set_same pairs 32 pair no_pair (omega arith)) ∙ e)

-- ---- the lines in use are read
pub lines_in_use : (pairs : Memory) (n : ℕ) → n ≤ 32 → map line_in (take n pairs) ≡ take n (session_in pairs).lines
unfolding session_in
lines_in_use pairs n h = sym (take-map line_in n (take 32 pairs) ∙ ap (map line_in) (take-take n 32 pairs h))
