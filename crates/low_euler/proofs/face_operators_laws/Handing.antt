-- Faces that are given to a solid one by one.
use Rattle.low_euler.proofs.Prelude.{◌≡◌, ◌≢◌, ℕ, ◌+◌, ◌<◌, Bool, true, false, cond, nat_eq, ◌||◌, List, [], ◌∷◌, ◌++◌, length, take, get_or, Option, Some, None, is_some, unwrap_or, refl, sym, ap, ◌∙◌, arith, inl, inr, option_map, eq-eqb, nat_tests, eqb_tells, Table, map_rows, put, same_table, get-map_rows, get-put, Model, FaceRow, no_face, outer, Has, lists, faces_to_solid, Store, set_solid, or_true, or_false, row_some, mapped_some, moved}
use Rattle.std.proofs.lemmas.List.{take_more}
use Rattle.euler_operators.specs.Table as table

abbrev given : List ℕ → ℕ → ℕ → FaceRow → FaceRow
given fs n = faces_to_solid (λ f _. lists fs f) n

-- a rewriting keeps which numbers have rows
pub has_given : (t : Table FaceRow) (fs : List ℕ) (n q : ℕ) → table.has (map_rows (given fs n) t) q ≡ table.has t q
has_given t fs n q = ap is_some (get-map_rows (given fs n) t q) ∙ mapped_some (given fs n q) (table.get t q)

lists-push : (fs : List ℕ) (f q : ℕ) → lists (fs ++ f ∷ []) q ≡ (lists fs q || nat_eq f q)
lists-push [] f q = or_false (nat_eq f q)
lists-push (g ∷ fs) f q = grind (arith, lists-push fs f q)

apart : (a b : ℕ) → a ≢ b → nat_eq b a ≡ false
apart a b e = grind (arith, nat_tests)

-- one face more
module _ (M : Model) (fs : List ℕ) (n f : ℕ) (there : Has M.faces f) where
  abbrev old : Table FaceRow
  old = map_rows (given fs n) M.faces

  abbrev N : Model
  N = record M { faces = old }

  here : (row : FaceRow) → table.get M.faces f ≡ Some row → outer N f ≡ row.outer
  unfolding outer
  here row at = ap (λ o. (unwrap_or o no_face).outer) (get-map_rows (given fs n) M.faces f ∙ ap (option_map (given fs n f)) at) ∙ outer_stays (lists fs f) where
    outer_stays : (b : Bool) → (cond b (record row { solid = n }) row).outer ≡ row.outer
    outer_stays true = refl
    outer_stays false = refl

  one_more : put old f (record { solid = n; outer = outer N f }) ≡ map_rows (given (fs ++ f ∷ []) n) M.faces
  one_more = same_table _ _ (λ q. get-put old f (record { solid = n; outer = outer N f }) q ∙ elim (eqb_tells q f) [
    | inl e ↦
        let r = row_some (table.get M.faces f) there in
        ap (λ b. cond b (Some (record { solid = n; outer = outer N f })) (table.get old q)) e.0
        ∙ ap (λ l. Some (record { solid = n; outer = l })) (here r.0 r.1)
        ∙ sym (ap (λ b. Some (cond b (record r.0 { solid = n }) r.0)) (lists-push fs f f ∙ ap (λ b. lists fs f || b) (eq-eqb f f refl) ∙ or_true (lists fs f)))
        ∙ sym (ap (λ k. table.get (map_rows (given (fs ++ f ∷ []) n) M.faces) k) e.1 ∙ get-map_rows (given (fs ++ f ∷ []) n) M.faces f ∙ ap (option_map (given (fs ++ f ∷ []) n f)) r.1)
    | inr e ↦
        ap (λ b. cond b (Some (record { solid = n; outer = outer N f })) (table.get old q)) e.0
        ∙ get-map_rows (given fs n) M.faces q
        ∙ ap (λ b. option_map (λ (row : FaceRow). cond b (record row { solid = n }) row) (table.get M.faces q)) (sym (lists-push fs f q ∙ ap (λ b. lists fs q || b) (apart q f e.1) ∙ or_false (lists fs q)))
        ∙ sym (get-map_rows (given (fs ++ f ∷ []) n) M.faces q)
  ])

pub step : (s : Store) (fs : List ℕ) (i n f : ℕ) → i < length fs → get_or fs i 0 ≡ f → Has s.model.faces f → set_solid (moved s (take i fs) n) f n ≡ moved s (take (i + 1) fs) n
step s fs i n f l at there =
    ap (λ t. record s { model = record s.model { faces = t } }) (one_more s.model (take i fs) n f there)
    ∙ ap (λ xs. moved s xs n) (ap (λ g. take i fs ++ g ∷ []) (sym at) ∙ sym (take_more fs i 0 l))

pub start : (s : Store) (n : ℕ) → s ≡ moved s [] n
start s n = ap (λ t. record s { model = record s.model { faces = t } }) (same_table _ _ (λ q. sym (get-map_rows (given [] n) s.model.faces q ∙ nothing_given (table.get s.model.faces q)))) where
  nothing_given : (o : Option FaceRow) → option_map (λ (row : FaceRow). row) o ≡ o
  nothing_given None = refl
  nothing_given (Some row) = refl
