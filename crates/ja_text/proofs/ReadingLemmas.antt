-- What a reading that did not fail, or failed, says of its parts.
use Rattle.std.proofs.Common.{◌≡◌, Bool, true, false, cond, Option, Some, None, Result, Ok, Err, refl, ap, ◌⊎◌, inl, inr}
use Rattle.std.specs.Prelude.{ok_or}
use Rattle.ja_text.specs.Reading.{◌>>=◌}

-- what was read first, where nothing failed
pub bind_ok : {A B F : Type 0} (r : Result A F) (f : A → Result B F) (y : B) → (r >>= f) ≡ Ok y → (x : A) × (r ≡ Ok x)
    × (f x ≡ Ok y)
bind_ok (Ok x) f y e = (x, refl, e)
bind_ok (Err d) f y e = absurd cc

-- where something failed it was the first, or the first was read and the second failed
pub bind_err : {A B F : Type 0} (r : Result A F) (f : A → Result B F) (d : F) → (r >>= f) ≡ Err d → (r ≡ Err d)
    ⊎ ((x : A) × (r ≡ Ok x) × (f x ≡ Err d))
bind_err (Ok x) f d e = inr (x, refl, e)
bind_err {F} (Err g) f d e =
    let same : g ≡ d = cc in
    inl (ap (λ (k : F). Err k) same)

-- a test that did not refuse
pub guard_ok : {A F : Type 0} (b : Bool) (d : F) (x y : A) → cond b (Err d) (Ok x) ≡ Ok y → (b ≡ false) × (x ≡ y)
guard_ok true d x y e = absurd cc
guard_ok false d x y e = (refl, cc)

-- a test that held
pub guard_held : {A F : Type 0} (b : Bool) (d : F) (x y : A) → cond b (Ok x) (Err d) ≡ Ok y → (b ≡ true) × (x ≡ y)
guard_held true d x y e = (refl, cc)
guard_held false d x y e = absurd cc

-- which way a test went
pub chosen : {A : Type 0} (b : Bool) (x y z : A) → cond b x y ≡ z → ((b ≡ true) × (x ≡ z)) ⊎ ((b ≡ false) × (y ≡ z))
chosen true x y z e = inl (refl, e)
chosen false x y z e = inr (refl, e)

pub ok_is : {A F : Type 0} (x y : A) → ◌≡◌ {A = Result A F} (Ok x) (Ok y) → x ≡ y
ok_is x y e = cc

pub err_is : {A F : Type 0} (f g : F) → ◌≡◌ {A = Result A F} (Err f) (Err g) → f ≡ g
err_is f g e = cc

-- a form that must stand there
pub ok_or_ok : {A F : Type 0} (o : Option A) (d : F) (x : A) → ok_or o d ≡ Ok x → o ≡ Some x
ok_or_ok None d x e = absurd cc
ok_or_ok (Some y) d x e = cc

pub ok_or_err : {A F : Type 0} (o : Option A) (d f : F) → ok_or o d ≡ Err f → (o ≡ None) × (d ≡ f)
ok_or_err None d f e = (refl, cc)
ok_or_err (Some y) d f e = absurd cc
