-- The words that records begin with.
use Rattle.std.specs.Prelude.{ℕ, cond, List, Some, None, Option, codes}
use Rattle.std.specs.Str.{bytes_eq}
use Rattle.records.specs.declared.line.Word.{Word}
use Rattle.records.specs.declared.line.Word.TheVariants.{Event, Linear, Delay, Limit, Need}

abbrev pub word_of : List ℕ → Option Word
word_of bytes =
    cond (bytes_eq bytes (codes "event")) (Some Event)
    (cond (bytes_eq bytes (codes "linear")) (Some Linear)
    (cond (bytes_eq bytes (codes "delay")) (Some Delay)
    (cond (bytes_eq bytes (codes "limit")) (Some Limit)
    (cond (bytes_eq bytes (codes "need")) (Some Need) None))))
