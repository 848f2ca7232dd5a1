-- What holds of a result, by its case.
use Rattle.std.proofs.Common.{◌≡◌, refl, subst, Result, Ok, Err}
use Rattle.std.specs.Prelude.{IfOk, IfErr, MatchResult}

pub if_ok : {T E : Type 0} (r : Result T E) {R : T → Type 0} → ((x : T) → r ≡ Ok x → R x) → IfOk r R
if_ok (Ok x) h = h x refl
if_ok (Err e) h = tt

pub if_err : {T E : Type 0} (r : Result T E) {R : E → Type 0} → ((e : E) → r ≡ Err e → R e) → IfErr r R
if_err (Ok x) h = tt
if_err (Err e) h = h e refl

pub ok_of : {T E : Type 0} {r : Result T E} {x : T} (R : T → Type 0) → r ≡ Ok x → IfOk r R → R x
ok_of R is h = subst (λ r. IfOk r R) is h

pub err_of : {T E : Type 0} {r : Result T E} {e : E} (R : E → Type 0) → r ≡ Err e → IfErr r R → R e
err_of R is h = subst (λ r. IfErr r R) is h

pub match_ok : {T E : Type 0} {r : Result T E} {x : T} (R : T → Type 0) (S : E → Type 0) → r ≡ Ok x → MatchResult r R S → R x
match_ok R S is h = subst (λ r. MatchResult r R S) is h

pub match_err : {T E : Type 0} {r : Result T E} {e : E} (R : T → Type 0) (S : E → Type 0) → r ≡ Err e → MatchResult r R S → S e
match_err R S is h = subst (λ r. MatchResult r R S) is h
