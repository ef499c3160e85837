-- From the conditions of a lamina: its operators in order, and the model that they leave.
use Rattle.sweeps_laws.proofs.Prelude.{◌≡◌, ℕ, zero, suc, ◌+◌, ◌<◌, true, List, [], ◌∷◌, ◌++◌, None, refl, subst, ◌∙◌, arith, length, get_or, ◌-◌, leb-true, not-true, Point, is_in_range, Model, no_point, Sound, first_false, effect, no_row, all_hold, effect_keeps_sound, Leads, leads_none, leads_one, leads_on, leads_first, leads_sound, none_found, numbers_are_left, Taken, taken_in, first_far, lamina_conditions, lamina_refusal, lamina_at, lamina_model, path_at, first_point, next_point, further_points, last_edge, lamina_operators, OperatorsAreAccepted, OperatorsMakeLamina, LaminaIsSound}
use Rattle.sweeps_laws.proofs.lamina.Steps.{Goes, first_accepted, first_made, second_accepted, second_made, further_accepted, further_made, last_accepted, last_made}

-- where no point is too far, each is in range
none_far : (i : ℕ) (ps : List Point) → first_far i ps ≡ None → (k : ℕ) → k < length ps → is_in_range (get_or ps k no_point) ≡ true
none_far i [] e k l = absurd (omega (arith, l))
none_far i (p ∷ ps) e zero l = grind (arith, e)
none_far i (p ∷ ps) e (suc k) l = grind (arith, e, none_far (i + 1) ps)

-- what the conditions say
pub lamina_goes : (M : Model) (s : ℕ) (ps : List Point) → Sound M → lamina_refusal M s ps ≡ None → Goes M (taken_in M) s ps (length ps)
unfolding lamina_conditions taken_in
lamina_goes M s ps sound e = grind (arith, all_hold, no_row, not-true, leb-true, none_far, none_found, numbers_are_left)

module _ (M : Model) (c : Taken) (s : ℕ) (ps : List Point) (n : ℕ) (goes : Goes M c s ps n) where
  -- each operator on the way is accepted and leads on
  pub next_accepted : (j : ℕ) → suc j < n → Sound (path_at M c s ps j) → first_false (path_at M c s ps j) (next_point c ps j) ≡ None
  next_accepted zero l sound = second_accepted M c s ps n goes sound
  next_accepted (suc j) l sound = further_accepted M c s ps n goes j sound l

  pub next_made : (j : ℕ) → Sound (path_at M c s ps j) → effect (path_at M c s ps j) (next_point c ps j) ≡ path_at M c s ps (suc j)
  next_made zero sound = second_made M c s ps n goes
  next_made (suc j) sound = further_made M c s ps n goes j sound

  pub path_sound : (j : ℕ) → j < n → Sound (path_at M c s ps j)
  path_sound zero l = subst Sound (first_made M c s ps n goes) (effect_keeps_sound M (first_point c s ps) goes.sound (first_accepted M c s ps n goes))
  path_sound (suc j) l = let before : Sound (path_at M c s ps j) = path_sound j (omega (arith, l)) in
      subst Sound (next_made j before) (effect_keeps_sound (path_at M c s ps j) (next_point c ps j) before (next_accepted j l before))

  -- the last one closes the ring
  pub close_accepted : (j : ℕ) → n ≡ suc j → first_false (path_at M c s ps j) (last_edge c j) ≡ None
  close_accepted zero all = absurd (omega (arith, all, goes.many))
  close_accepted (suc j) all = last_accepted M c s ps n goes j (path_sound (suc j) (omega (arith, all))) all

  pub close_made : (j : ℕ) → n ≡ suc j → length ps ≡ n → effect (path_at M c s ps j) (last_edge c j) ≡ lamina_at M c s ps
  close_made zero all is = absurd (omega (arith, all, goes.many))
  close_made (suc j) all is = last_made M c s ps n goes j (path_sound (suc j) (omega (arith, all))) (is ∙ all)

module _ (M : Model) (c : Taken) (s : ℕ) (ps : List Point) (n : ℕ) (goes : Goes M c s ps n) where
  walked : (j : ℕ) → j < n → Leads (path_at M c s ps 0) (path_at M c s ps j) (further_points c ps j)
  walked zero l = leads_none (path_at M c s ps 0)
  walked (suc j) l = let m : j < n = omega (arith, l) in
      leads_on (path_at M c s ps 0) (path_at M c s ps j) (path_at M c s ps (suc j)) (further_points c ps j) (next_point c ps j ∷ []) (walked j m)
      (leads_one (path_at M c s ps j) (path_at M c s ps (suc j)) (next_point c ps j) (next_accepted M c s ps n goes j l (path_sound M c s ps n goes j m)) (next_made M c s ps n goes j (path_sound M c s ps n goes j m)))

  all_lead : (j : ℕ) → n ≡ suc j → length ps ≡ n → Leads M (lamina_at M c s ps) (first_point c s ps ∷ further_points c ps j ++ last_edge c j ∷ [])
  all_lead j all is =
      leads_first M (path_at M c s ps 0) (lamina_at M c s ps) (first_point c s ps) (further_points c ps j ++ last_edge c j ∷ []) (first_accepted M c s ps n goes) (first_made M c s ps n goes)
      (leads_on (path_at M c s ps 0) (path_at M c s ps j) (lamina_at M c s ps) (further_points c ps j) (last_edge c j ∷ []) (walked j (omega (arith, all)))
      (leads_one (path_at M c s ps j) (lamina_at M c s ps) (last_edge c j) (close_accepted M c s ps n goes j all) (close_made M c s ps n goes j all is)))

lamina_leads : (M : Model) (s : ℕ) (ps : List Point) → Sound M → lamina_refusal M s ps ≡ None → Leads M (lamina_model M s ps) (lamina_operators M s ps)
unfolding lamina_operators lamina_model
lamina_leads M s ps sound e = let goes = lamina_goes M s ps sound e in all_lead M (taken_in M) s ps (length ps) goes (length ps - 1) (omega (arith, goes.many)) refl

pub operators_are_accepted : OperatorsAreAccepted
operators_are_accepted M s ps sound e = (lamina_leads M s ps sound e).accepted

pub operators_make_lamina : OperatorsMakeLamina
operators_make_lamina M s ps sound e = (lamina_leads M s ps sound e).made

pub lamina_is_sound : LaminaIsSound
lamina_is_sound M s ps sound e = leads_sound M (lamina_model M s ps) (lamina_operators M s ps) sound (lamina_leads M s ps sound e)
