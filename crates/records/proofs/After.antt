-- What holds of an answer, by what holds of the answers that it is made of.
use Rattle.std.proofs.Common.{Bool, true, false, cond, Ok, Err, Result, IfOk}
use Rattle.text.specs.Checks.{and_then}
use Rattle.records.specs.Fields.{carried, map_ok}

pub after : {A B E : Type 0} {P : A → Type 0} (Q : B → Type 0) (r : Result A E) (f : A → Result B E) → IfOk r P → ((x : A) → P x → IfOk (f x) Q) → IfOk (and_then r f) Q
after Q (Ok x) f h k = k x h
after Q (Err e) f h k = tt

-- whatever the first answer is
pub after_any : {A B E : Type 0} (Q : B → Type 0) (r : Result A E) (f : A → Result B E) → ((x : A) → IfOk (f x) Q) → IfOk (and_then r f) Q
after_any Q (Ok x) f k = k x
after_any Q (Err e) f k = tt

-- one of two answers, by a test
pub either : {A E : Type 0} (Q : A → Type 0) (b : Bool) (r s : Result A E) → IfOk r Q → IfOk s Q → IfOk (cond b r s) Q
either Q true r s h k = h
either Q false r s h k = k

pub after_map : {A B E : Type 0} {P : A → Type 0} (Q : B → Type 0) (f : A → B) (r : Result A E) → IfOk r P → ((x : A) → P x → Q (f x)) → IfOk (map_ok f r) Q
after_map Q f (Ok x) h k = k x h
after_map Q f (Err e) h k = tt

pub after_carried : {A D E : Type 0} (Q : A → Type 0) (g : D → E) (r : Result A D) → IfOk r Q → IfOk (carried g r) Q
after_carried Q g (Ok x) h = h
after_carried Q g (Err e) h = tt
