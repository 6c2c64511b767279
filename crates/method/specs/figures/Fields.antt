-- Figures of fields: 1,000 behind one byte, -10, the least number; flags 2.
use Rattle.std.specs.Prelude.{true, false, [], ◌∷◌, ◌≡◌, refl, negsuc}
use Rattle.method.specs.words.Wire.{word, signed, bit}

-- ---- figures: 1,000 behind one byte, -10, the least number; flags 2
thousand : word (7 ∷ 0xe8 ∷ 3 ∷ 0 ∷ 0 ∷ []) 1 ≡ 1_000
unfolding word
thousand = refl

minus_ten : signed (word (0xf6 ∷ 0xff ∷ 0xff ∷ 0xff ∷ []) 0) ≡ negsuc 9
unfolding signed word
minus_ten = refl

least : signed 2_147_483_648 ≡ negsuc 2_147_483_647
unfolding signed
least = refl

two : (bit 0 2 ≡ false) × (bit 1 2 ≡ true)
unfolding bit
two = (refl, refl)
