-- Facts of the lines of two lists, line by line, and what the quote of one line keeps. Assumes nothing.
use mathlib.Core.Bool.{Bool, true, false, cond}
use mathlib.Core.List.{List, [], ◌∷◌, map}
use Prim.Native.Nat.{ℕ}
use lib.Dec.{eqb}
use Rattle.method.specs.words.Types.{Millionths, Line}
use Rattle.method.specs.words.Ranges.{Every}
use Rattle.method.specs.words.Shifts.{Each}
use Rattle.method.specs.computed.Types.{Quote}
use Rattle.method.specs.computed.Event.{quoted_line, quoted}

pub each_same : (P : Line → Type 0) (R : Line → Line → Type 0) → ((l : Line) → P l → R l l) → (ls : List Line) → Every P ls → Each R ls ls
unfolding Every Each
each_same P R h [] ps = tt
each_same P R h (l ∷ ls) ps = (h l ps.0, each_same P R h ls ps.1)

-- from a fact of two lines and a fact of the later one
pub each_with : (P : Line → Type 0) (R S : Line → Line → Type 0) → ((o l : Line) → P l → R o l → S o l) → (os ls : List Line) → Every P ls → Each R os ls
    → Each S os ls
unfolding Every Each
each_with P R S h [] [] ps rs = tt
each_with P R S h [] (l ∷ ls) ps rs = rs
each_with P R S h (o ∷ os) [] ps rs = rs
each_with P R S h (o ∷ os) (l ∷ ls) ps rs = (h o l ps.0 rs.0, each_with P R S h os ls ps.1 rs.1)

pub each_weaker : (R S : Line → Line → Type 0) → ((o l : Line) → R o l → S o l) → (os ls : List Line) → Each R os ls → Each S os ls
unfolding Each
each_weaker R S h [] [] rs = tt
each_weaker R S h [] (l ∷ ls) rs = rs
each_weaker R S h (o ∷ os) [] rs = rs
each_weaker R S h (o ∷ os) (l ∷ ls) rs = (h o l rs.0, each_weaker R S h os ls rs.1)

-- over a list between the two
pub each_by : {A : Type 0} (R : A → Line → Type 0) (S : Line → Line → Type 0) (T : A → Line → Type 0) → ((x : A) (o l : Line) → R x o → S o l → T x l)
    → (xs : List A) (os ls : List Line) → Each R xs os → Each S os ls → Each T xs ls
unfolding Each
each_by R S T h [] [] [] rs ss = tt
each_by R S T h [] [] (l ∷ ls) rs ss = ss
each_by R S T h [] (o ∷ os) ls rs ss = absurd rs
each_by R S T h (x ∷ xs) [] ls rs ss = absurd rs
each_by R S T h (x ∷ xs) (o ∷ os) [] rs ss = ss
each_by R S T h (x ∷ xs) (o ∷ os) (l ∷ ls) rs ss = (h x o l rs.0 ss.0, each_by R S T h xs os ls rs.1 ss.1)

pub each_map : (P : Line → Type 0) (R S : Line → Line → Type 0) (f : Line → Line) → ((o l : Line) → P l → R o l → S o (f l)) → (os ls : List Line) → Every P ls
    → Each R os ls → Each S os (map f ls)
unfolding Every Each
each_map P R S f h [] [] ps rs = tt
each_map P R S f h [] (l ∷ ls) ps rs = rs
each_map P R S f h (o ∷ os) [] ps rs = rs
each_map P R S f h (o ∷ os) (l ∷ ls) ps rs = (h o l ps.0 rs.0, each_map P R S f h os ls ps.1 rs.1)

-- ---- what the quote of one line keeps of two lists
module _ (near : Millionths) (left : ℕ) (q : Quote) where
  pub each_quoted : (R : Line → Line → Type 0) → ((o l : Line) → R o l → R o (quoted_line near left q l)) → (os ls : List Line) → Each R os ls
      → Each R os (quoted near left q ls)
  unfolding Each quoted
  each_quoted R h [] [] rs = tt
  each_quoted R h [] (l ∷ ls) rs = absurd rs
  each_quoted R h (o ∷ os) [] rs = rs
  each_quoted R h (o ∷ os) (l ∷ ls) rs = go (eqb l.terms.id q.id) (each_quoted R h os ls rs.1)
    where
      go : (b : Bool) → Each R os (quoted near left q ls) → Each R (o ∷ os) (cond b (quoted_line near left q l ∷ ls) (l ∷ quoted near left q ls))
      go true more = (h o l rs.0, rs.1)
      go false more = (rs.0, more)
