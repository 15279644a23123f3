-- Forms that are repeated, as a loop takes them.
use Rattle.std.proofs.Common.{◌≡◌, ℕ, zero, suc, ◌+◌, ◌<◌, List, [], ◌∷◌, ◌++◌, length-append, refl, sym, ap, subst, ◌∙◌, append_assoc, append-nil, inl, arith}
use Rattle.report.specs.Reports.{AreLines}
use Rattle.report.specs.Forms.{Form, Takes, Stops, then, nothing, texts_from, FitFrom, FitTimes, times}
use Rattle.report.proofs.FormLemmas.{HasSome, IsSound, AreLines-append, IsPart, same_stops, stops_first, stops_behind}

pub nothing_sound : IsSound nothing
nothing_sound = record { one = λ x a y b fx fy e. (refl, e); some = (tt, tt); lines = λ x fits. inl refl }

module _ {S X : Type 0} (F : S → Form X) (next : S → X → S) where
  -- the state that these values lead to
  abbrev pub state_behind : S → List X → S
  state_behind s [] = s
  state_behind s (x ∷ xs) = state_behind (next s x) xs

  texts-append : (s : S) (xs ys : List X) → texts_from F next s (xs ++ ys) ≡ texts_from F next s xs ++ texts_from F next
      (state_behind s xs) ys
  texts-append s [] ys = refl
  texts-append s (x ∷ xs) ys =
      ap (λ (t : List ℕ). (F s).text x ++ t) (texts-append (next s x) xs ys)
      ∙ sym (append_assoc ((F s).text x) (texts_from F next (next s x) xs) (texts_from F next (state_behind s (x ∷ xs)) ys))

  fit-append : (s : S) (xs ys : List X) → FitFrom F next s xs → FitFrom F next (state_behind s xs) ys
      → FitFrom F next s (xs ++ ys)
  fit-append s [] ys h k = k
  fit-append s (x ∷ xs) ys h k = (h.0, fit-append (next s x) xs ys h.1 k)

  pub state-push : (s : S) (xs : List X) (x : X) → state_behind s (xs ++ x ∷ []) ≡ next (state_behind s xs) x
  state-push s [] x = refl
  state-push s (y ∷ xs) x = state-push (next s y) xs x

  -- ---- as a loop goes

  pub times_none : (s : S) (bytes : List ℕ) → Takes (times F next 0 s) bytes [] bytes
  times_none s bytes = record { fits = record { as_many = refl; each = tt }; parts = refl }

  pub times_more : (s : S) (bytes : List ℕ) (i : ℕ) (xs : List X) (rest : List ℕ) (x : X) (after : List ℕ)
      → Takes (times F next i s) bytes xs rest
      → Takes (F (state_behind s xs)) rest x after → Takes (times F next (i + 1) s) bytes (xs ++ x ∷ []) after
  times_more s bytes i xs rest x after t u =
      let now = state_behind s xs in
      let one : texts_from F next now (x ∷ []) ≡ (F now).text x = append-nil ((F now).text x) in
      record {
        fits = record {
          as_many = omega (arith, length-append xs (x ∷ []), t.fits.as_many);
          each = fit-append s xs (x ∷ []) t.fits.each (u.fits, tt);
        };
        parts = t.parts ∙ ap (λ (v : List ℕ). texts_from F next s xs ++ v) (u.parts ∙ ap (λ (v : List ℕ). v ++ after) (sym one))
            ∙ sym (append_assoc (texts_from F next s xs) (texts_from F next now (x ∷ [])) after)
            ∙ ap (λ (v : List ℕ). v ++ after) (sym (texts-append s xs (x ∷ [])));
      }

  -- ---- one more in front

  there : (n : ℕ) (s : S) → IsPart (then (F s) (λ x. times F next n (next s x))) (times F next (suc n) s)
  there n s = λ p fits. (p.0 ∷ p.1, record { as_many = ap suc fits.1.as_many; each = (fits.0, fits.1.each) }, refl)

  back : (n : ℕ) (s : S) → IsPart (times F next (suc n) s) (then (F s) (λ x. times F next n (next s x)))
  back n s [] fits = absurd (omega (arith, fits.as_many))
  back n s (x ∷ xs) fits = ((x, xs), (fits.each.0, record { as_many = omega (arith, fits.as_many); each = fits.each.1 }), refl)

  -- ---- where each state that is met has a sound form

  -- Met n s says that n more values may be met from the state s on
  pub record IsMet (Met : ℕ → S → Type 0) : Type 0 where
    pub sound : (n : ℕ) (s : S) → Met (suc n) s → IsSound (F s)
    pub goes_on : (n : ℕ) (s : S) (x : X) → Met (suc n) s → (F s).Fits x → Met n (next s x)

  module _ (Met : ℕ → S → Type 0) (met : IsMet Met) where
    pub times_some : (n : ℕ) (s : S) → Met n s → HasSome (times F next n s)
    times_some zero s m = ([], record { as_many = refl; each = tt })
    times_some (suc n) s m =
        let x = (met.sound n s m).some in
        let xs = times_some n (next s x.0) (met.goes_on n s x.0 m x.1) in
        (x.0 ∷ xs.0, record { as_many = ap suc xs.1.as_many; each = (x.1, xs.1.each) })

    times_lines : (n : ℕ) (s : S) (xs : List X) → Met n s → FitTimes F next n s xs → AreLines (texts_from F next s xs)
    times_lines n s [] m fits = inl refl
    times_lines zero s (x ∷ xs) m fits = absurd (omega (arith, fits.as_many))
    times_lines (suc n) s (x ∷ xs) m fits =
        AreLines-append ((F s).text x) (texts_from F next (next s x) xs) ((met.sound n s m).lines x fits.each.0)
        (times_lines n (next s x) xs (met.goes_on n s x m fits.each.0)
        (record { as_many = omega (arith, fits.as_many); each = fits.each.1 }))

    times_one : (n : ℕ) (s : S) (xs : List X) (a : List ℕ) (ys : List X) (b : List ℕ) → Met n s → FitTimes F next n s xs
        → FitTimes F next n s ys
        → texts_from F next s xs ++ a ≡ texts_from F next s ys ++ b → (xs ≡ ys) × (a ≡ b)
    times_one n s [] a [] b m fx fy e = (refl, e)
    times_one n s [] a (y ∷ ys) b m fx fy e = absurd (omega (arith, fx.as_many, fy.as_many))
    times_one n s (x ∷ xs) a [] b m fx fy e = absurd (omega (arith, fx.as_many, fy.as_many))
    times_one zero s (x ∷ xs) a (y ∷ ys) b m fx fy e = absurd (omega (arith, fx.as_many))
    times_one (suc n) s (x ∷ xs) a (y ∷ ys) b m fx fy e =
        let tx = texts_from F next (next s x) xs in
        let ty = texts_from F next (next s y) ys in
        let parts : (F s).text x ++ (tx ++ a) ≡ (F s).text y ++ (ty ++ b) = sym (append_assoc ((F s).text x) tx a) ∙ e
        ∙ append_assoc ((F s).text y) ty b in
        let first = (met.sound n s m).one x (tx ++ a) y (ty ++ b) fx.each.0 fy.each.0 parts in
        let same : y ≡ x = sym first.0 in
        let rest : tx ++ a ≡ texts_from F next (next s x) ys ++ b = first.1
        ∙ ap (λ (z : X). texts_from F next (next s z) ys ++ b) same in
        let fits_y : FitFrom F next (next s x) ys = subst (λ (z : X). FitFrom F next (next s z) ys) same fy.each.1 in
        let others = times_one n (next s x) xs a ys b (met.goes_on n s x m fx.each.0)
        (record { as_many = omega (arith, fx.as_many); each = fx.each.1 })
        (record { as_many = omega (arith, fy.as_many); each = fits_y }) rest in
        (ap (λ (z : X). z ∷ xs) first.0 ∙ ap (λ (zs : List X). y ∷ zs) others.0, others.1)

    pub times_sound : (n : ℕ) (s : S) → Met n s → IsSound (times F next n s)
    times_sound n s m = record {
      one = λ xs a ys b fx fy e. times_one n s xs a ys b m fx fy e;
      some = times_some n s m;
      lines = λ xs fits. times_lines n s xs m fits;
    }

    -- reading stops at the next one
    stops_next : (n : ℕ) (s : S) → Met (suc n) s → (bytes : List ℕ) (left : ℕ) → Stops (F s) bytes left
        → Stops (times F next (suc n) s) bytes left
    stops_next n s m bytes left stop =
        let G : X → Form (List X) = λ x. times F next n (next s x) in
        same_stops (then (F s) G) (times F next (suc n) s) (there n s) (back n s) bytes left
        (stops_first (F s) G (λ x fits. times_some n (next s x) (met.goes_on n s x m fits)) bytes left stop)

    -- reading stops behind one
    stops_later : (n : ℕ) (s : S) → Met (suc n) s → (bytes : List ℕ) (x : X) (mid : List ℕ) (left : ℕ) → Takes (F s) bytes x mid
        → Stops (times F next n (next s x)) mid left → Stops (times F next (suc n) s) bytes left
    stops_later n s m bytes x mid left t stop =
        let G : X → Form (List X) = λ z. times F next n (next s z) in
        same_stops (then (F s) G) (times F next (suc n) s) (there n s) (back n s) bytes left
        (stops_behind (F s) G (met.sound n s m) bytes x mid left t stop)

    -- reading stops behind as many as a loop has taken
    pub times_ends : (n : ℕ) (s : S) (bytes : List ℕ) (i : ℕ) (xs : List X) (rest : List ℕ) (left : ℕ) → Met n s → i < n
        → Takes (times F next i s) bytes xs rest
        → Stops (F (state_behind s xs)) rest left → Stops (times F next n s) bytes left
    times_ends zero s bytes i xs rest left m less t stop = absurd (omega (arith, less))
    times_ends (suc n) s bytes i [] rest left m less t stop = stops_next n s m bytes left
        (subst (λ (v : List ℕ). Stops (F s) v left) (sym t.parts) stop)
    times_ends (suc n) s bytes zero (x ∷ xs) rest left m less t stop = absurd (omega (arith, t.fits.as_many))
    times_ends (suc n) s bytes (suc i) (x ∷ xs) rest left m less t stop =
        let mid = texts_from F next (next s x) xs ++ rest in
        let first : Takes (F s) bytes x mid = record {
          fits = t.fits.each.0;
          parts = t.parts
              ∙ append_assoc ((F s).text x) (texts_from F next (next s x) xs) rest;
        } in
        let others : Takes (times F next i (next s x)) mid xs
        rest = record { fits = record { as_many = omega (arith, t.fits.as_many); each = t.fits.each.1 }; parts = refl } in
        stops_later n s m bytes x mid left first
        (times_ends n (next s x) mid i xs rest left (met.goes_on n s x m t.fits.each.0) (omega (arith, less)) others stop)
