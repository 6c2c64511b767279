-- The line that a question is about, found by a search through the lines, and what stands on it. Assumes nothing.
use mathlib.Core.Path.{◌≡◌, refl, subst}
use mathlib.Core.Bool.{Bool, true, false, cond, ◌||◌, false≢true}
use mathlib.Core.List.{List, [], ◌∷◌}
use Prim.Native.Nat.{ℕ}
use lib.Dec.{eqb}
use Rattle.std.specs.Prelude.{Some, None}
use Rattle.std.specs.List.{find}
use Rattle.method.specs.words.Types.{State}
use Rattle.method.specs.words.Ranges.{Every}
use Rattle.method.specs.told.Questions.{listed, known, line_of, demand}
use Rattle.method.specs.computed.Opening.{ids}
use Rattle.method.specs.computed.Head.{most_left}
use Rattle.method.specs.computed.Rooms.{Room, Sane}
use Rattle.method.proofs.Rooms.{room_fewer}
use Rattle.method.proofs.Head.{left_within}
use Rattle.questions.specs.Names.{Line}
use Rattle.questions.specs.Asked.{sought}

-- ---- the first line that has the id is the line of the id
pub find_sought : (id : ℕ) (s : State) → find (λ l. eqb l.terms.id id) s.lines ≡ sought id s
unfolding sought listed line_of
find_sought id s = go s.lines
  where
    go : (ls : List Line) → find (λ l. eqb l.terms.id id) ls ≡ demand (listed id (ids ls)) None (Some (line_of id ls))
    go [] = refl
    go (l ∷ ls) = split (eqb l.terms.id id) (go ls)
      where
        split : (b : Bool) → find (λ l. eqb l.terms.id id) ls ≡ demand (listed id (ids ls)) None (Some (line_of id ls))
            → cond b (Some l) (find (λ l. eqb l.terms.id id) ls) ≡ demand (b || listed id (ids ls)) None (Some (cond b l (line_of id ls)))
        split true e = refl
        split false e = e

-- ---- what holds of every line holds of the one that is sought
every_line : (P : Line → Type 0) (id : ℕ) (ls : List Line) → Every P ls → listed id (ids ls) ≡ true → P (line_of id ls)
unfolding Every listed line_of
every_line P id [] h k = absurd (false≢true k)
every_line P id (l ∷ ls) h k = go (eqb l.terms.id id) k (every_line P id ls h.1)
  where
    go : (b : Bool) → (b || listed id (ids ls)) ≡ true → (listed id (ids ls) ≡ true → P (line_of id ls)) → P (cond b l (line_of id ls))
    go true k more = h.0
    go false k more = more k

pub sought_every : (P : Line → Type 0) (id : ℕ) (s : State) (l : Line) → Every P s.lines → Some l ≡ sought id s → P l
unfolding sought
sought_every P id s l h e = go (known id s) refl e
  where
    go : (b : Bool) → known id s ≡ b → Some l ≡ demand b None (Some (line_of id s.lines)) → P l
    go true k q = let same : line_of id s.lines ≡ l = cc in subst P same (every_line P id s.lines h k)
    go false k q = cc

-- so it has room for the shifts that are left
pub sought-room : (id : ℕ) (s : State) (l : Line) → Sane s → Some l ≡ sought id s → Room s.left l
sought-room id s l v e = room_fewer (left_within s) (sought_every (Room (most_left s)) id s l v.rooms e)
