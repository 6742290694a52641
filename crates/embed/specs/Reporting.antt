-- A report, into bytes handed in.
use Rattle.std.specs.Prelude.{◌≡◌, ℕ, cond, ◌⊎◌, List, ◌++◌, length, drop, Ok, Err, Result, nat_le}
use Rattle.report.specs.Report.{Reports}
use Rattle.embed.specs.declared.failure.Failure.{Failure}
use Rattle.embed.specs.declared.failure.Failure.TheVariants.{TooFewBytes, NoMemory}

-- how many bytes are written, where there is room for all
abbrev pub copied_count : List ℕ → List ℕ → Result ℕ Failure
copied_count text out = cond (nat_le (length text) (length out)) (Ok (length text)) (Err TooFewBytes)

-- the bytes after them stay; where there are too few, none is written
abbrev pub copied_bytes : List ℕ → List ℕ → List ℕ
copied_bytes text out = cond (nat_le (length text) (length out)) (text ++ drop (length text) out) out

-- what is to be printed for the text, copied out; unless memory is wanting: then no byte is written
abbrev pub TextReports : List ℕ → List ℕ → List ℕ → Result ℕ Failure → Type 0
TextReports text out out' r =
    ((r ≡ Err NoMemory) × (out' ≡ out))
    ⊎ ((printed : List ℕ) × Reports text printed × (r ≡ copied_count printed out) × (out' ≡ copied_bytes printed out))
