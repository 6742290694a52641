-- What a bound asks of a set of its n terms, as its kind and K are read.
use Rattle.std.specs.Prelude.{◌≡◌, ℕ, Bool, true, false, cond, ◌==◌, Option, MatchOption, count_ones, nat_le}
use Rattle.rules.specs.declared.Asked.{Asked}
use Rattle.rules.specs.declared.Asked.TheVariants.{Any, Added}
use Rattle.rules.specs.declared.Voted.{Voted}
use Rattle.rules.specs.declared.Voted.TheVariants.{Every, AtLeast}
use Rattle.rules.specs.Laws.{Admits, Enough}
use Rattle.rules.specs.Masks.{some_in}

-- a kind and a K are read where they are admitted, and what is read then asks of each set what they ask
abbrev pub ReadsAs : {Kind : Type 0} → Admits → Enough → (Kind → ℕ → ℕ → Bool) → ℕ → ℕ → ℕ → Option Kind → Type 0
ReadsAs admits holds asks kind k n read =
    MatchOption read (admits kind k n ≡ false) (λ asked. (admits kind k n ≡ true) × ((set : ℕ) → asks asked n set ≡ holds kind k n set))

-- any of them, or what an added kind asks: as read,
abbrev pub asked_by : {Kind : Type 0} → (Kind → ℕ → ℕ → Bool) → Asked Kind → ℕ → ℕ → Bool
asked_by asks Any n set = some_in set
asked_by asks (Added kind) n set = asks kind n set

-- and by number
abbrev pub holds_with : Enough → Enough
holds_with holds kind k n set = cond (kind == 0) (some_in set) (holds kind k n set)

-- what Vote's kinds ask
abbrev pub voted : Voted → ℕ → ℕ → Bool
voted Every n set = nat_le n (count_ones set)
voted (AtLeast k) n set = nat_le k (count_ones set)
