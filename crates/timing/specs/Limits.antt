-- The figure of the product: delays lie from -1,000,000 to 1,000,000 ticks. Every definition and lemma takes it as a parameter.
use Rattle.std.specs.Prelude.{ℕ}

abbrev pub delay_limit : ℕ
delay_limit = 1000000
