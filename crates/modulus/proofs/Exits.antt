-- What a function returns where a `?` refuses. Assumes nothing.
use Rattle.std.proofs.Common.{◌≡◌, Ok, Err, Result, MatchResult, sym, ap, subst}
use Rattle.std.specs.Result.{IsErrAnd}
use Rattle.modulus.specs.declared.refusal.Refusal.{Refusal}

-- the error of the call is what returns
pub err_is : {T E : Type 0} (r : Result T E) (f : E) → IsErrAnd r (λ (g : E). g ≡ f) → r ≡ Err f
err_is (Ok x) f is = absurd is
err_is (Err g) f is = ap (λ e. Err e) is

-- the refusal of the call is what returns
pub refused : {T : Type 0} (r : Result T Refusal) (f : Refusal) (P : T → Type 0) (Q : Refusal → Type 0) → IsErrAnd r (λ (g : Refusal). g ≡ f) → Q f → MatchResult r P Q
refused (Ok x) f P Q is h = absurd is
refused (Err g) f P Q is h = subst Q (sym is) h

-- the same, where the call says which refusal it is
pub refused-as : {T : Type 0} (r : Result T Refusal) (f g : Refusal) (P : T → Type 0) (Q : Refusal → Type 0) → IsErrAnd r (λ (k : Refusal). k ≡ f) → f ≡ g → Q g → MatchResult r P Q
refused-as r f g P Q is which h = refused r f P Q is (subst Q (sym which) h)
