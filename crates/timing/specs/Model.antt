-- What a sheet holds, as numbers and lists.
use Rattle.std.specs.Prelude.{ℕ, ◌<◌, ◌≤◌, List, ℤ, pos, neg_ℤ, ◌≤ℤ◌}
use Rattle.std.specs.List.{AllByRecursion}

-- a term: an event and a delay
pub record TermModel : Type 0 where
  pub from : ℕ
  pub delay : ℤ

-- a bound: its late event TO, its kind and K, and its terms
pub record BoundModel : Type 0 where
  pub to : ℕ
  pub kind : ℕ
  pub k : ℕ
  pub terms : List TermModel

-- a term from one of n events, with a delay from -D to D
abbrev pub TermWithin : ℕ → ℕ → TermModel → Type 0
TermWithin n D m = (m.from < n) × (neg_ℤ (pos D) ≤ℤ m.delay) × (m.delay ≤ℤ pos D)

-- a bound among n events, with delays from -D to D
abbrev pub BoundWithin : ℕ → ℕ → BoundModel → Type 0
BoundWithin n D b = (b.to < n) × AllByRecursion (TermWithin n D) b.terms

-- a sheet: n events, at most N, and bounds among them; a delay limit D of 1 or more
pub record IsSheet (N D n : ℕ) (bs : List BoundModel) : Type 0 where
  pub few : n ≤ N
  pub limit : 1 ≤ D
  pub bounds : AllByRecursion (BoundWithin n D) bs
