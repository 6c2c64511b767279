-- What a contract whose fields and id are good gives to the next tests, and to its line.
use Rattle.std.proofs.Common.{◌≡◌, true, Ok, Err, is_ok, refl, sym, ap, ◌∙◌}
use Rattle.method.specs.words.Ranges.{ContractIn}
use Rattle.method.specs.computed.Types.{FieldsAnswer}
use Rattle.method.specs.computed.Opening.{fields_answer}
use Rattle.method.proofs.Fields.{contract_in}
use Rattle.method.proofs.Growth.{rate-most}
use Rattle.table.specs.Names.{Contract, Field}
use Rattle.table.proofs.Opening.{line_spanned}
use Rattle.table.proofs.open_line.Goals as goal

-- a contract whose fields the tests passed keeps to its ranges
ranges : (c : Contract) (a : FieldsAnswer) → a ≡ fields_answer c → is_ok a ≡ true → ContractIn c
ranges c a e g = contract_in c (sym e ∙ passed a g)
  where
    passed : (a : FieldsAnswer) → is_ok a ≡ true → ◌≡◌ {A = FieldsAnswer} a (Ok tt)
    passed (Ok ok) g = refl
    passed (Err f) g = cc

pub rate_at-requires : goal.rate_at-requires
rate_at-requires c =
    record {
      some = c.requires.some;
      good = c.requires.good;
      days_small = ranges c.args.c c.fields.result c.fields.ensures (sym c.map_err.ensures.variant ∙ ap is_ok c.in_ok-map_err.was) Field.Days;
    }

pub exponent-y-requires : goal.exponent-y-requires
exponent-y-requires c = (
  rw c.rate_at.ensures (rate-most _ _ c.requires.good),
  ranges c.args.c c.fields.result c.fields.ensures (sym c.map_err.ensures.variant ∙ ap is_ok c.in_ok-map_err.was) Field.Days,
)

pub terms-requires : goal.terms-requires
terms-requires c = (
  ranges c.args.c c.fields.result c.fields.ensures (sym c.map_err.ensures.variant ∙ ap is_ok c.in_ok-map_err.was),
  (c.requires.share, c.if-y-gt-MOST_EXPONENT.false),
)

pub market-requires : goal.market-requires
market-requires c = ranges c.args.c c.fields.result c.fields.ensures (sym c.map_err.ensures.variant ∙ ap is_ok c.in_ok-map_err.was)

pub opened_with-requires : goal.opened_with-requires
opened_with-requires c =
    line_spanned c.args.shift c.exponent-y.result.0 c.args.c c.terms.result c.market.result c.if-y-gt-MOST_EXPONENT.false
    (ranges c.args.c c.fields.result c.fields.ensures (sym c.map_err.ensures.variant ∙ ap is_ok c.in_ok-map_err.was)) c.terms.ensures c.market.ensures
