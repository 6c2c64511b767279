-- Figures that pin what no rule pins: the half-widths of all three levels, the exponent's cap from both sides, where the outer part of a factor
-- tells, bounds near zero and across it, and lines that do not press because they are not watched or are frozen. One table under one claim. Assumes
-- nothing.
use Rattle.std.specs.Prelude.{List, [], ◌∷◌, ◌++◌, map, ◌≡◌, refl, ℕ, ◌-◌, ◌*◌, ◌/◌, ◌^◌, ℤ, pos, negsuc}
use Rattle.method.specs.words.Types.{Contract, Line, Up, Down, steps, millionths}
use Rattle.method.specs.words.Wire.{word, signed, bit}
use Rattle.method.specs.words.Layout.{header_of, key_at, contract_at, keys_at, contracts_at}
use Rattle.method.specs.words.Growth.{between_keys, rate_from, rate_by_keys, rate_at, exponent, term, series, outer_part, up_factor, down_factor, factors_of}
use Rattle.method.specs.words.Bounds.{factor, interest, outward, bound}
use Rattle.method.specs.words.Opening.{normal_price, half_width, market_of, half_move, terms_of, corridor_half, corridor, floored, fresh_line}
use Rattle.method.specs.words.Tables.{opening_state}
use Rattle.method.specs.words.Pressure.{close, presses}
use Rattle.method.specs.told.Refusals.{table_number, field_place, field_number, event_number}
use Rattle.method.specs.told.Questions.{listed}
use Rattle.method.specs.told.Rows.{rows_of, rows_from, closing_row, row_numbers, numbers_of}
use Rattle.method.specs.told.Program.{pieces}
use Rattle.method.specs.laws.Outer.{factorial, exact_term, exact_sum, exact}
use Rattle.method.specs.computed.Opening.{field_good, first_bad, id_good, inside_bounds, opened_with, open_line}
use Rattle.method.specs.computed.Table.{header_good, laid_out, key_good, bad_key, open_lines, open_records, opening}
use Rattle.method.specs.computed.Head.{most_left}
use Rattle.method.specs.computed.Judge.{judged, judge, judge_line}
use Rattle.method.specs.computed.Shift.{moved, redrawn, moved_line, shift_line, shifted, after}
use Rattle.method.specs.computed.Event.{read_tick, read_quote, read, in_session, not_crossed, quote_answer, screened, verdict, quoted_line, quoted, applied, next}
use Rattle.method.specs.computed.Search.{due_of, ahead, sooner, passed, earliest, in_time, next_due, serve, served_by, answer, run, finally}
use Rattle.method.specs.computed.Program.{session_rows, rows_after, program}
use Rattle.method.specs.figures.Inputs.{table, tick, bid, ask, fields, contract, line, of_line, bounds, both_limits, Figure, figure}

-- ---- three levels with rates of their own, at P 1,000 and shift share 500,000
abbrev levels : ℤ → ℤ → ℕ → ℕ → ℕ → Contract
levels spot least rate1 rate2 rate3 =
    record {
      price = steps (pos 1_000);
      spot = steps spot;
      least = steps least;
      rate1 = millionths rate1;
      rate2 = millionths rate2;
      rate3 = millionths rate3;
      width = millionths 500_000;
      days = 90;
      id = 7;
      flags = 2;
    }

-- what an opened line has of them, and then its half-move
abbrev halves : Line → List ℤ
halves l = l.market.half1.0 ∷ l.market.half2.0 ∷ l.market.half3.0 ∷ l.terms.halfmove.0 ∷ []

-- ---- whole inputs
-- one key, and contract 7 with spot and P as given; most shifts 2
abbrev one : ℕ → ℕ → ℕ → ℕ → ℕ → ℕ → ℕ → List ℕ → List ℤ
one rate price days level width flags least events =
    numbers_of
    (program
    (table 1_000 2 1 1
    (days ∷ rate ∷ price ∷ price ∷ least ∷ level ∷ level ∷ level ∷ width ∷ days ∷ 7 ∷ flags ∷ events)))

-- at P 1,000, half-width 100 and limits 950 and 1,050, of which less than 5 is near
abbrev plain : ℕ → List ℕ → List ℤ
plain flags events = one 0 1_000 90 100_000 500_000 flags 1 events

-- at P 30, half-width 30 and half-move 7; limits by the width share
abbrev low : ℕ → ℕ → List ℕ → List ℤ
low width flags events = one 0 30 365 1_000_000 width flags 1 events

-- ---- near zero: half-width 100 and half-move 25, at the exponent 100,000,000, whose factors are 1.105170936 and 0.904837403
abbrev near_zero : ℤ → ℕ → Contract
near_zero price width = contract price (pos 1_000) 100_000 width 3

-- and as a whole input, with P as its word, and spot 0
abbrev across_zero : ℕ → List ℕ → List ℤ
across_zero price events =
    numbers_of
    (program
    (table 1_000 2 1 1
    (365 ∷ 100_000 ∷ price ∷ 0 ∷ 1_000 ∷ 100_000 ∷ 100_000 ∷ 100_000 ∷ 500_000 ∷ 365 ∷ 7 ∷ 3 ∷ events)))

abbrev minus : ℕ → ℕ
minus n = 4_294_967_296 - n

-- a shift line of contract 7, and the closing line of it
abbrev shift : ℕ → ℕ → List ℤ
shift second side = map pos (1 ∷ second ∷ side ∷ 7 ∷ 0 ∷ 0 ∷ [])

abbrev closed : ℤ → ℤ → ℤ → ℤ → List ℤ
closed lower upper lowerbound upperbound = pos 4 ∷ pos 7 ∷ lower ∷ upper ∷ lowerbound ∷ upperbound ∷ []

-- ---- the table: the figure, and what the definitions give
abbrev pub edges : List Figure
edges =
    -- Half-widths of a normal price of 1,051, each level rounded up by itself: 105.1, 238.000001, 812.999999; then the last one exactly 1,051.
    figure (map pos (106 ∷ 239 ∷ 813 ∷ 26 ∷ [])) (of_line halves (line 0 (levels (pos 1_051) (pos 1) 100_000 226_451 773_549)))
    ∷ figure (map pos (106 ∷ 239 ∷ 813 ∷ 26 ∷ [])) (of_line halves (line 0 (levels (negsuc 1_050) (pos 1) 100_000 226_451 773_549)))
    ∷ figure (map pos (239 ∷ 813 ∷ 1_051 ∷ 59 ∷ [])) (of_line halves (line 0 (levels (negsuc 1_049) (pos 1_051) 226_451 773_549 1_000_000)))
    -- The cap: rate 50,000 at 3,650 days meets it exactly; 249,658 at 731 is 499,999,994; 106,043 at 1,721 is 500,000,008, the least above it that
    -- a table can give.
    ∷ figure (map pos (500_000_000 ∷ 499_999_994 ∷ 500_000_008 ∷ [])) (map pos (exponent 50_000 3_650 ∷ exponent 249_658 731 ∷ exponent 106_043 1_721 ∷ []))
    ∷ figure (map pos (1_648_721_287 ∷ 606_530_653 ∷ [])) (map pos (up_factor 500_000_000 ∷ down_factor 500_000_000 ∷ []))
    ∷ figure (closed (pos 45_754_585) (pos 154_245_415) (pos 30_326_532) (pos 247_308_194)) (one 50_000 100_000_000 3_650 500_000 500_000 2 1 [])
    ∷ figure (closed (pos 683) (pos 1_317) (pos 545) (pos 1_814)) (one 249_658 1_000 731 100_000 500_000 2 1 [])
    ∷ figure (map pos (3 ∷ 7 ∷ 1 ∷ 0 ∷ 0 ∷ 0 ∷ [])) (one 106_043 1_000 1_721 100_000 500_000 2 1 [])
    -- D3. The next exponent above one that is on the desk's sheet, 100,000,000, whose factor is starred.
    ∷ figure (map pos (100_000_005 ∷ 1_105_170_941 ∷ [])) (map pos (exponent 744_898 49 ∷ up_factor 100_000_005 ∷ []))
    -- M4. Above 0 there is an outer part, at the least exponent too. At the exponent 100,000,000 it carries the upper market bound 26,823 a step further
    -- than the series alone would, and the one before it not; and the lower one 29,644.
    ∷ figure (map pos (1_000_000_021 ∷ 999_999_979 ∷ [])) (map pos (up_factor 1 ∷ down_factor 1 ∷ []))
    ∷ figure (map pos (29_643 ∷ 29_645 ∷ [])) (map (interest Up (up_factor 100_000_000)) (map pos (26_822 ∷ 26_823 ∷ [])))
    ∷ figure (map pos (29_643 ∷ 29_644 ∷ [])) (map (interest Up (series 100_000_000 12)) (map pos (26_822 ∷ 26_823 ∷ [])))
    ∷ figure (map pos (26_822 ∷ 26_822 ∷ [])) (map (interest Down (down_factor 100_000_000)) (map pos (29_643 ∷ 29_644 ∷ [])))
    ∷ figure (map pos (26_822 ∷ 26_823 ∷ [])) (map (interest Down (1_000_000_000_000_000_000 / series 100_000_000 12)) (map pos (29_643 ∷ 29_644 ∷ [])))
    ∷ figure (map pos (29_645 ∷ 24_089 ∷ [])) (of_line bounds (line 100_000 (fields (pos 26_723) (pos 0) (pos 1_000) 100_000 500_000 365 0)))
    -- The exact sum at 0 is one, and at 1,000,000,000, far above the cap, the sum of all 12! / k!.
    ∷ figure (map pos (479_001_600 * 10 ^ 108 ∷ 1_302_061_345 * 10 ^ 108 ∷ [])) (map pos (exact 0 ∷ exact 1_000_000_000 ∷ []))
    -- D2. Each bound by its own sign. P -10 with the share 950,000: limits 95 and -115, inside their bounds 100 and -122. P 0: both bounds take the
    -- up factor. A market bound of exactly 0 stays 0, and one of -1 or 1 that is carried toward zero comes to 0.
    ∷ figure (pos 95 ∷ negsuc 114 ∷ []) (of_line both_limits (line 100_000 (near_zero (negsuc 9) 950_000)))
    ∷ figure (pos 111 ∷ negsuc 110 ∷ []) (of_line bounds (line 100_000 (near_zero (pos 0) 500_000)))
    ∷ figure (pos 0 ∷ negsuc 221 ∷ []) (of_line bounds (line 100_000 (near_zero (negsuc 99) 500_000)))
    ∷ figure (pos 222 ∷ pos 0 ∷ []) (of_line bounds (line 100_000 (near_zero (pos 100) 500_000)))
    ∷ figure (pos 0 ∷ negsuc 222 ∷ []) (of_line bounds (line 100_000 (near_zero (negsuc 100) 500_000)))
    ∷ figure (pos 223 ∷ pos 0 ∷ []) (of_line bounds (line 100_000 (near_zero (pos 101) 500_000)))
    -- A shift that carries a bound across zero, by the down factor before it and by the up factor after: upward, and downward the same turned round.
    ∷ figure (closed (negsuc 196) (negsuc 82) (negsuc 265) (negsuc 35)) (across_zero (minus 140) [])
    ∷ figure (shift 70 0 ++ closed (negsuc 196) (negsuc 34) (negsuc 265) (pos 12)) (across_zero (minus 140) (bid 10 7 (minus 83) (tick 1_000 [])))
    ∷ figure (closed (pos 83) (pos 197) (pos 36) (pos 266)) (across_zero 140 [])
    ∷ figure (shift 70 1 ++ closed (pos 35) (pos 197) (negsuc 11) (pos 266)) (across_zero 140 (ask 10 7 83 (tick 1_000 [])))
    -- Two shifts that do, by way of 0.
    ∷ figure (closed (negsuc 207) (negsuc 91) (negsuc 276) (negsuc 44)) (across_zero (minus 150) [])
    ∷ figure (shift 70 0 ++ closed (negsuc 207) (negsuc 46) (negsuc 276) (pos 0)) (across_zero (minus 150) (bid 10 7 0 (tick 70 [])))
    ∷ figure (shift 70 0 ++ shift 130 0 ++ closed (negsuc 207) (pos 9) (negsuc 276) (pos 56)) (across_zero (minus 150) (bid 10 7 0 (tick 130 [])))
    ∷ figure (closed (pos 92) (pos 208) (pos 45) (pos 277)) (across_zero 150 [])
    ∷ figure (shift 70 1 ++ closed (pos 47) (pos 208) (pos 0) (pos 277)) (across_zero 150 (ask 10 7 0 (tick 70 [])))
    ∷ figure (shift 70 1 ++ shift 130 1 ++ closed (negsuc 8) (pos 208) (negsuc 55) (pos 277)) (across_zero 150 (ask 10 7 0 (tick 130 [])))
    -- A bid on the upper limit, an ask on the lower: a watched line shifts at 70, one without watch never.
    ∷ figure (shift 70 0 ++ closed (pos 950) (pos 1_100) (pos 900) (pos 1_150)) (plain 2 (bid 10 7 1_050 (tick 69 (tick 1_000 []))))
    ∷ figure (closed (pos 950) (pos 1_050) (pos 900) (pos 1_100)) (plain 0 (bid 10 7 1_050 (tick 69 (tick 1_000 []))))
    ∷ figure (shift 70 1 ++ closed (pos 900) (pos 1_050) (pos 850) (pos 1_100)) (plain 2 (ask 10 7 950 (tick 69 (tick 1_000 []))))
    ∷ figure (closed (pos 950) (pos 1_050) (pos 900) (pos 1_100)) (plain 0 (ask 10 7 950 (tick 69 (tick 1_000 []))))
    -- A lower limit of 1 that is not frozen shifts once and is frozen by it; one that was lifted to 1 at opening presses down never, and up as ever;
    -- where negative prices are permitted there is no floor.
    ∷ figure (shift 61 1 ++ closed (pos 1) (pos 59) (negsuc 13) (pos 60)) (low 966_667 2 (ask 1 7 1 (tick 61 (tick 1_000 []))))
    ∷ figure (closed (pos 1) (pos 60) (pos 0) (pos 60)) (low 1_000_000 2 (ask 1 7 1 (tick 61 (tick 1_000 []))))
    ∷ figure (shift 61 0 ++ closed (pos 1) (pos 74) (pos 0) (pos 74)) (low 1_000_000 2 (bid 1 7 60 (tick 61 (tick 1_000 []))))
    ∷ figure (shift 61 1 ++ closed (negsuc 13) (pos 60) (negsuc 13) (pos 60)) (low 1_000_000 3 (ask 1 7 1 (tick 61 (tick 1_000 []))))
    ∷ []

-- Each is what the definitions give.
pub edges_claim : map (λ f. f.computed) edges ≡ map (λ f. f.printed) edges
unfolding word signed bit table_number field_place field_number event_number between_keys rate_from rate_by_keys rate_at exponent term series outer_part up_factor down_factor factorial exact_term exact_sum factors_of factor interest outward bound field_good first_bad listed id_good normal_price half_width market_of half_move terms_of corridor_half corridor inside_bounds floored fresh_line opened_with open_line header_of key_at contract_at keys_at contracts_at header_good laid_out key_good bad_key opening_state open_lines open_records opening close presses judged judge judge_line moved redrawn moved_line shift_line most_left shifted after read_tick read_quote read in_session not_crossed quote_answer screened verdict quoted_line quoted applied next due_of ahead sooner passed earliest in_time next_due serve served_by answer run finally rows_of rows_from closing_row session_rows pieces rows_after program row_numbers
edges_claim = refl
