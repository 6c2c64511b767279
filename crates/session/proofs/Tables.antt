-- How much is read as the table, and that the table's bytes are the input's first ones. Assumes nothing.
use Rattle.std.proofs.Common.{◌≡◌, ℕ, ◌+◌, ◌<◌, ◌≤◌, Bool, true, false, cond, List, ◌++◌, length, length-append, length-drop, take, drop, Option, Some, None, refl, sym, ap, subst, ◌∙◌, arith}
use Rattle.std.proofs.Math.Seq.{take-append-add, length-take-le, take-append_seam, take_all}
use borrow.Author.Tests.{ltb-false}
use lib.Dec.{ltb}
use Rattle.std.specs.Io.KnownBytes.{Consumes}
use Rattle.std.proofs.KnownBytes.{Consumes-trans}
use Rattle.method.specs.declared.Header.{Header}
use Rattle.method.specs.words.Layout.{header_of, table_length}
use Rattle.session.specs.Reading.{longest_table, table_end, TableFrom}
use Rattle.filling.specs.Filled.{FilledFrom}
use Rattle.session.proofs.HeaderAlone.{header_front}
use Rattle.filling.proofs.Taken.{filled-short, filled-upto}

-- the header by itself at least, and the longest table at most
pub record EndIn (end : ℕ) : Type 0 where
  pub least : 40 ≤ end
  pub most : end ≤ longest_table

pub end_in : {end : ℕ} (h : Header) → end ≡ table_end h → EndIn end
unfolding table_end
end_in {end} h e = go (ltb longest_table (table_length h)) refl e
  where
    go : (t : Bool) → ltb longest_table (table_length h) ≡ t → end ≡ cond t 40 (table_length h) → EndIn end
    go true t e = record { least = omega arith; most = omega arith }
    go false t e = let few = ltb-false longest_table (table_length h) t in record { least = omega arith; most = omega arith }

pub header-long : (room : List ℕ) → 40 ≤ length room → 40 ≡ length (take 40 room)
header-long room h = sym (length-take-le 40 room h)

-- after bytes were read into the header's place
module _ (got room : List ℕ) (kept : length got ≡ length (take 40 room)) (h : 40 ≤ length room) where
  pub room-long : length (got ++ drop 40 room) ≡ length room
  room-long = omega (arith, length-append got (drop 40 room), length-drop 40 room, header-long room h)

  pub read_header_long : 40 ≡ length (take 40 (got ++ drop 40 room))
  read_header_long = header-long (got ++ drop 40 room) (omega (arith, room-long))

-- ---- of an input whose bytes are known
abbrev end_of : List ℕ → ℕ
end_of xs = table_end (header_of xs)

-- an input that ends in the header
pub header-short : (before after : Option (List ℕ)) (n : ℕ) (header room : List ℕ) → length header ≡ 40 → n < 40 → FilledFrom before after n header → take n room ≡ take n header
    → TableFrom before after n room
header-short None after n header room h l f same = record { taken = tt; upto = tt }
header-short (Some xs) after n header room h l f same =
    let all : xs ≡ take n header = filled-short xs after n header f (omega arith) in
    let least = (end_in (header_of xs) refl).least in
    let long : length xs ≤ end_of xs = omega (arith, least, ap length all, length-take-le n header (omega arith)) in
    record { taken = subst (Consumes (Some xs) after) (sym same) f.taken; upto = same ∙ sym (take_all (end_of xs) xs long ∙ all) }

-- a header, and then as much as it says
pub header-and-rest : (before mid after : Option (List ℕ)) (n : ℕ) (header rest room : List ℕ) → length header ≡ 40 → 40 + length rest ≡ end_of header → n ≤ length rest
    → FilledFrom before mid 40 header → FilledFrom mid after n rest → take (40 + n) room ≡ header ++ take n rest → TableFrom before after (40 + n) room
header-and-rest None mid after n header rest room h e g f q same = record { taken = tt; upto = tt }
header-and-rest (Some xs) None after n header rest room h e g f q same = absurd f.taken
header-and-rest (Some xs) (Some ys) after n header rest room h e g f q same =
    let full : take 40 header ≡ header = take_all 40 header (omega arith) in
    let begins : xs ≡ header ++ ys = f.taken ∙ ap (λ (zs : List ℕ). zs ++ ys) full in
    let front : take 40 xs ≡ header =
    ap (take 40) begins ∙ ap (λ (k : ℕ). take k (header ++ ys)) (sym h) ∙ take-append_seam header ys in
    let ends : end_of xs ≡ length header + length rest =
    ap table_end (sym (header_front 40 xs (omega arith))) ∙ ap end_of front ∙ omega arith in
    record {
      taken =
          subst (Consumes (Some xs) after) (sym (same ∙ ap (λ (zs : List ℕ). zs ++ take n rest) (sym full)))
          (Consumes-trans (Some xs) (Some ys) after _ _ f.taken q.taken);
      upto =
          same ∙ ap (λ (zs : List ℕ). header ++ zs) (filled-upto ys after n rest g q)
          ∙ sym (ap (λ (k : ℕ). take k xs) ends ∙ ap (take (length header + length rest)) begins ∙ take-append-add header ys (length rest));
    }
