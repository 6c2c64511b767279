-- The starred figures (METHOD 25), in one table under one claim. Assumes nothing.
use Rattle.std.specs.Prelude.{List, [], ◌∷◌, map, ◌≡◌, refl, ℕ, pos, negsuc}
use Rattle.method.specs.words.Types.{Key, Contract, millionths}
use Rattle.method.specs.words.Wire.{word, signed, bit}
use Rattle.method.specs.words.Layout.{header_of, key_at, contract_at, keys_at, contracts_at}
use Rattle.method.specs.words.Growth.{between_keys, rate_from, rate_by_keys, rate_at, exponent, term, series, outer_part, up_factor, down_factor, factors_of}
use Rattle.method.specs.words.Bounds.{factor, interest, outward, bound}
use Rattle.method.specs.words.Opening.{normal_price, half_width, market_of, half_move, terms_of, corridor_half, corridor, floored, fresh_line}
use Rattle.method.specs.words.Tables.{opening_state}
use Rattle.method.specs.words.Pressure.{close, presses}
use Rattle.method.specs.told.Refusals.{table_number, field_place, field_number, event_number}
use Rattle.method.specs.told.Questions.{listed}
use Rattle.method.specs.told.Rows.{rows_of, rows_from, closing_row, row_numbers, numbers_of}
use Rattle.method.specs.told.Program.{pieces}
use Rattle.method.specs.computed.Opening.{field_good, first_bad, id_good, inside_bounds, opened_with, open_line}
use Rattle.method.specs.computed.Table.{header_good, laid_out, key_good, bad_key, open_lines, open_records, opening}
use Rattle.method.specs.computed.Head.{most_left}
use Rattle.method.specs.computed.Judge.{judged, judge, judge_line}
use Rattle.method.specs.computed.Shift.{moved, redrawn, moved_line, shift_line, shifted, after}
use Rattle.method.specs.computed.Event.{read_tick, read_quote, read, in_session, not_crossed, quote_answer, screened, verdict, quoted_line, quoted, applied, next}
use Rattle.method.specs.computed.Search.{due_of, ahead, sooner, passed, earliest, in_time, next_due, serve, served_by, answer, run, finally}
use Rattle.method.specs.computed.Program.{session_rows, rows_after, program}
use Rattle.method.specs.figures.Inputs.{sample, tick, empty, bid, contract, line, raw_lower, of_line, bounds, both_limits, shifted_down, Figure, figure}

-- ---- inputs
-- days and rate of two keys: 30 and 100,000; 90 and 70,001
abbrev two_keys : List Key
two_keys = record { days = 30; rate = millionths 100_000 } ∷ record { days = 90; rate = millionths 70_001 } ∷ []

-- the exponent 100,000,000 is rate 100,000 at 365 days; rate, spot and least price give the half-width 100, or 30
abbrev thousand : ℕ → Contract
thousand width = contract (pos 1_000) (pos 1) 100_000 width 0

abbrev minus_ten : Contract
minus_ten = contract (negsuc 9) (pos 1_000) 100_000 500_000 1

abbrev thirty : Contract
thirty = contract (pos 30) (pos 1) 1_000_000 900_000 0

-- ---- the table: the figure, and what the definitions give
abbrev pub starred : List Figure
starred =
    -- METHOD 25.1: the rate between two keys, at a key, before the first, past the last
    figure (map pos (99_500 ∷ 100_000 ∷ 100_000 ∷ 70_001 ∷ [])) (map pos (map (rate_at two_keys) (31 ∷ 30 ∷ 10 ∷ 91 ∷ [])))
    -- 25.2: an exponent
    ∷ figure (pos 11_404_109 ∷ []) (pos (exponent 92_500 45) ∷ [])
    -- 25.3: an exponent and its factors
    ∷ figure (map pos (100_000_000 ∷ 1_105_170_936 ∷ 904_837_403 ∷ []))
    (map pos (exponent 100_000 365 ∷ up_factor 100_000_000 ∷ down_factor 100_000_000 ∷ []))
    -- 25.4: no exponent, both factors one
    ∷ figure (map pos (1_000_000_000 ∷ 1_000_000_000 ∷ [])) (map pos (up_factor 0 ∷ down_factor 0 ∷ []))
    -- 25.5: interest bounds and limits
    ∷ figure (map pos (1_216 ∷ 814 ∷ [])) (of_line bounds (line 100_000 (thousand 500_000)))
    ∷ figure (map pos (1_100 ∷ 900 ∷ [])) (of_line both_limits (line 100_000 (thousand 500_000)))
    -- 25.6: a lower limit beyond its bound, refused
    ∷ figure (pos 799 ∷ []) (raw_lower 100_000 (thousand 1_000_000))
    ∷ figure (pos 9 ∷ []) (of_line both_limits (line 100_000 (thousand 1_000_000)))
    -- 25.7: market bounds on both sides of zero, each of which takes the up factor
    ∷ figure (pos 100 ∷ negsuc 121 ∷ []) (of_line bounds (line 100_000 minus_ten))
    ∷ figure (pos 45 ∷ negsuc 64 ∷ []) (of_line both_limits (line 100_000 minus_ten))
    -- 25.8: a lower limit that meets the floor in a shift
    ∷ figure (map pos (57 ∷ 3 ∷ [])) (of_line both_limits (line 0 thirty))
    ∷ figure (pos 7 ∷ pos 23 ∷ pos 37 ∷ negsuc 13 ∷ pos 1 ∷ pos 1 ∷ []) (of_line shifted_down (line 0 thirty))
    -- 25.11: a whole session
    ∷ figure
    (map pos (1 ∷ 70 ∷ 0 ∷ 7 ∷ 0 ∷ 0 ∷ 1 ∷ 160 ∷ 0 ∷ 7 ∷ 0 ∷ 0 ∷ 4 ∷ 7 ∷ 950 ∷ 1_150 ∷ 900 ∷ 1_200 ∷ []))
    (numbers_of
    (program
    (sample 1_000 2 (7 ∷ []) (bid 10 7 1_046 (tick 69 (tick 70 (bid 100 7 1_093 (empty 200 7 (bid 210 7 1_150 (tick 1_000 []))))))))))
    ∷ []

-- Every starred figure is what the definitions give.
pub starred_claim : map (λ f. f.computed) starred ≡ map (λ f. f.printed) starred
unfolding word signed bit table_number field_place field_number event_number between_keys rate_from rate_by_keys rate_at exponent term series outer_part up_factor down_factor factors_of factor interest outward bound field_good first_bad listed id_good normal_price half_width market_of half_move terms_of corridor_half corridor inside_bounds floored fresh_line opened_with open_line header_of key_at contract_at keys_at contracts_at header_good laid_out key_good bad_key opening_state open_lines open_records opening close presses judged judge judge_line moved redrawn moved_line shift_line most_left shifted after read_tick read_quote read in_session not_crossed quote_answer screened verdict quoted_line quoted applied next due_of ahead sooner passed earliest in_time next_due serve served_by answer run finally rows_of rows_from closing_row session_rows pieces rows_after program row_numbers
starred_claim = refl
