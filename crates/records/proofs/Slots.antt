-- Slots that are filled one after another.
use Rattle.std.proofs.Common.{ℕ, ◌+◌, ◌-◌, ◌<◌, List, length, drop, set, replicate, sym, ap, ◌∙◌, arith}
use Rattle.std.proofs.lemmas.List.{drop-set-lt, drop-drop, drop-replicate, length-set}
use Rattle.records.specs.declared.entry.Need.{Need}
use Rattle.records.specs.Loads.{blank, Blank}

pub blank-more : (slots : List Need) (used : ℕ) (need : Need) → used < length slots → Blank slots used → Blank (set slots used need) (used + 1)
blank-more slots used need lt h =
    drop-set-lt (used + 1) slots used need (omega arith)
    ∙ (sym (drop-drop 1 used slots) ∙ (ap (drop 1) h ∙ (drop-replicate 1 (length slots - used) blank
    ∙ ap (λ (m : ℕ). replicate m blank) (simp length-set (omega arith)))))
