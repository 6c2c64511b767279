-- From part to part: the closing lines after the chunks, a table's answer before them, and the whole input. Assumes nothing.
use mathlib.Core.Path.{◌≡◌, sym, ap, subst, ◌∙◌}
use mathlib.Core.List.{List, [], ◌∷◌, ◌++◌, append-nil}
use Prim.Native.Nat.{ℕ}
use lib.ListN.{take, drop}
use Rattle.std.proofs.Common.{Option, Some, None, IfSome, Result, Ok, Err, OnOk, take-append-drop}
use Rattle.std.proofs.lemmas.List.{append_cancel_left}
use Rattle.std.specs.Io.KnownBytes.{Appends}
use Rattle.std.proofs.KnownBytes.{Appends-trans}
use Rattle.method.specs.declared.TableRefusal.{TableRefusal}
use Rattle.method.specs.declared.Row.TheVariants as Row
use Rattle.method.specs.words.Layout.{header_of}
use Rattle.method.specs.told.Text.{line_text}
use Rattle.method.specs.computed.Table.{opening}
use Rattle.corridor.specs.declared.Session.{Session}
use Rattle.corridor.specs.View.{opened_session}
use Rattle.feeding.specs.Chunks.{all_bytes}
use Rattle.session.specs.Reading.{table_end, TableFrom}
use Rattle.session.specs.Printing.{closing_text, texts, texts_after, printed, TellsChunks, Answers, AnswersWhole}
use Rattle.session.proofs.WholeInput.{texts_are, whole-input}

-- what follows from what an `Ok` says
pub on_ok : {T E : Type 0} (r : Result T E) {P Q : Type 0} → (P → Q) → OnOk r P → OnOk r Q
on_ok (Ok x) f p = f p
on_ok (Err e) f p = tt

-- ---- the closing lines
module _ (first last : Session) (before after held : Option (List ℕ)) where
  pub closed : (input : Option (List ℕ)) → IfSome input (TellsChunks first last before after) → Appends after held (closing_text last) → IfSome input (Answers (texts first) before held)
  closed None t a = tt
  closed (Some rest) t a =
      let closing = subst (λ (s : Session). Appends after held (closing_text s)) t.left a in
      record {
        chunks = t.chunks;
        cut = t.cut;
        told = subst (Appends before held) (sym (texts_are first t.chunks)) (Appends-trans _ _ _ _ _ t.told closing);
      }

-- ---- after a table's answer
module _ (table : List ℕ) {o : Result Session TableRefusal} (same : o ≡ opened_session (opening table)) (before after : Option (List ℕ)) where
  abbrev Told : Result Session TableRefusal → List ℕ → Type 0
  Told r rest = Answers (texts_after r) before after rest

  pub answered-opened : (input : Option (List ℕ)) (s : Session) → o ≡ Ok s → IfSome input (Answers (texts s) before after) → IfSome input (Answers (printed table) before after)
  answered-opened None s is t = tt
  answered-opened (Some rest) s is t = subst (λ (r : Result Session TableRefusal). Told r rest) (sym is ∙ same) t

  -- all that follows a refused table is one chunk that nobody looks at
  pub answered-refused : (input : Option (List ℕ)) (r : TableRefusal) → o ≡ Err r → Appends before after (line_text (Row.RefusedTable r.reason r.line))
      → IfSome input (Answers (printed table) before after)
  answered-refused None r is t = tt
  answered-refused (Some rest) r is t =
      subst (λ (z : Result Session TableRefusal). Told z rest) (sym is ∙ same)
      (record {
        chunks = rest ∷ [];
        cut = record { whole = tt; all = append-nil rest };
        told = subst (Appends before after) (sym (append-nil (line_text (Row.RefusedTable r.reason r.line)))) t;
      })

-- ---- the whole input: its table, and what follows it
module _ (n : ℕ) (room : List ℕ) (before after : Option (List ℕ)) where
  pub answered-whole : (input unread : Option (List ℕ)) → TableFrom input unread n room → IfSome unread (Answers (printed (take n room)) before after)
      → IfSome input (AnswersWhole before after)
  answered-whole None unread q t = tt
  answered-whole (Some xs) None q t = absurd q.taken
  answered-whole (Some xs) (Some ys) q t =
      let end : ℕ = table_end (header_of xs) in
      let split : take end xs ++ ys ≡ take end xs ++ drop end xs =
      sym (q.taken ∙ ap (λ (zs : List ℕ). zs ++ ys) q.upto) ∙ sym (take-append-drop end xs) in
      let follows : ys ≡ drop end xs = append_cancel_left (take end xs) ys (drop end xs) split in
      record {
        bytes = all_bytes (printed (take end xs) t.chunks);
        right = whole-input xs t.chunks t.cut.whole (t.cut.all ∙ follows);
        told = subst (λ (zs : List ℕ). Appends before after (all_bytes (printed zs t.chunks))) q.upto t.told;
      }
