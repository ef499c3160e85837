-- Writing one text after another.
use Rattle.solid_listing.proofs.Prelude.{◌≡◌, ℕ, List, ◌++◌, Option, sym, ap, ◌∙◌, append_assoc, Appends-trans, Appends, Stops}

-- the front of the text went out, and the rest is to come
pub record Writes (old new : Option (List ℕ)) (text rest : List ℕ) : Type 0 where
  pub front : List ℕ
  pub parts : text ≡ front ++ rest
  pub appended : Appends old new front

pub wrote_more : (a b c : Option (List ℕ)) (text rest next bs : List ℕ) → Writes a b text rest → Appends b c bs → rest ≡ bs ++ next → Writes a c text next
wrote_more a b c text rest next bs w h e = record {
  front = w.front ++ bs;
  parts = w.parts ∙ ap (λ (xs : List ℕ). w.front ++ xs) e ∙ sym (append_assoc w.front bs next);
  appended = Appends-trans a b c w.front bs w.appended h;
}

-- ---- one text after another

pub Stops-longer : (a c : Option (List ℕ)) (xs ys : List ℕ) → Stops a c xs → Stops a c (xs ++ ys)
Stops-longer a c xs ys s = record { front = s.front; rest = s.rest ++ ys; parts = ap (λ (t : List ℕ). t ++ ys) s.parts ∙ append_assoc s.front s.rest ys; appended = s.appended }

pub Stops-after : (a b c : Option (List ℕ)) (xs ys : List ℕ) → Appends a b xs → Stops b c ys → Stops a c (xs ++ ys)
Stops-after a b c xs ys p s = record { front = xs ++ s.front; rest = s.rest; parts = ap (λ (t : List ℕ). xs ++ t) s.parts ∙ sym (append_assoc xs s.front s.rest); appended = Appends-trans a b c xs s.front p s.appended }
