-- A quotient rounded toward a side.
use Rattle.std.specs.Prelude.{ℕ, ℤ}
use Rattle.numbers.specs.Rounding.{floor, ceiling}
use Rattle.bounds.specs.Names.{Side, Up, Down}

abbrev pub rounded : Side → ℤ → ℕ → ℤ
rounded Up n d = ceiling n d
rounded Down n d = floor n d
