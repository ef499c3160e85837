-- Telling one text after another.
use Rattle.solid_listing.proofs.Prelude.{◌≡◌, ℕ, List, [], ◌++◌, Option, Result, Ok, Err, sym, ap, subst, ◌∙◌, append_assoc, append-nil, Appends-nil, Appends-trans, Appends, Stops, Puts, Outgoing}
use Rattle.std.specs.Result.{IsErrAnd}
use Rattle.solid_listing.specs.Writing.{outgoing, Gathers, Tells}
use Rattle.solid_listing.proofs.WritingLaws.{Stops-longer, Stops-after as stops_after}

-- a prefix of what was pending and the text went out
abbrev pub Breaks : Outgoing → Outgoing → List ℕ → Type 0
Breaks a b text = Stops a.contents b.contents (a.pending ++ text)

pub Gathers-nil : (a : Outgoing) → Gathers a a []
Gathers-nil a = record { front = []; parts = append-nil a.pending; appended = Appends-nil a.contents }

pub Gathers-trans : (a b c : Outgoing) (xs ys : List ℕ) → Gathers a b xs → Gathers b c ys → Gathers a c (xs ++ ys)
Gathers-trans a b c xs ys g h = record {
  front = g.front ++ h.front;
  parts = sym (append_assoc a.pending xs ys)
      ∙ ap (λ (t : List ℕ). t ++ ys) g.parts
      ∙ append_assoc g.front b.pending ys
      ∙ ap (λ (t : List ℕ). g.front ++ t) h.parts
      ∙ sym (append_assoc g.front h.front c.pending);
  appended = Appends-trans a.contents b.contents c.contents g.front h.front g.appended h.appended;
}

pub Breaks-longer : (a c : Outgoing) (xs ys : List ℕ) → Breaks a c xs → Breaks a c (xs ++ ys)
Breaks-longer a c xs ys s = subst (Stops a.contents c.contents) (append_assoc a.pending xs ys) (Stops-longer a.contents c.contents (a.pending ++ xs) ys s)

pub Breaks-after : (a b c : Outgoing) (xs ys : List ℕ) → Gathers a b xs → Breaks b c ys → Breaks a c (xs ++ ys)
Breaks-after a b c xs ys g s = subst (Stops a.contents c.contents)
    (sym (append_assoc g.front b.pending ys) ∙ ap (λ (t : List ℕ). t ++ ys) (sym g.parts) ∙ append_assoc a.pending xs ys)
    (stops_after a.contents b.contents c.contents g.front (b.pending ++ ys) g.appended s)

-- the same text in other words
pub tells_as : {A E : Type 0} (a b : Outgoing) (xs ys : List ℕ) (r : Result A E) → xs ≡ ys → Tells a b xs r → Tells a b ys r
tells_as a b xs ys r e = subst (λ (t : List ℕ). Tells a b t r) e

-- a text after another that is all told
pub tells_after : {A E : Type 0} (a b c : Outgoing) (xs ys : List ℕ) (r : Result A E) → Gathers a b xs → Tells b c ys r → Tells a c (xs ++ ys) r
tells_after a b c xs ys (Ok x) h t = Gathers-trans a b c xs ys h t
tells_after a b c xs ys (Err e) h t = Breaks-after a b c xs ys h t

-- what a `?` hands on where a text breaks off, of that text and one after it
pub broken_off : {A E : Type 0} (Q : E → Type 0) (a b : Outgoing) (xs ys : List ℕ) (r : Result A E) → IsErrAnd r Q → Breaks a b xs → Tells a b (xs ++ ys) r
broken_off Q a b xs ys (Ok x) h s = absurd h
broken_off Q a b xs ys (Err e) h s = Breaks-longer a b xs ys s

-- one text after another
pub ruleset telling = (tells_after, broken_off)

-- ---- a text that is told in pieces

-- the front of the text is told, and the rest is to come
pub record Telling (old new : Outgoing) (text rest : List ℕ) : Type 0 where
  pub front : List ℕ
  pub parts : text ≡ front ++ rest
  pub gathered : Gathers old new front

pub none_yet : (a : Outgoing) (text rest : List ℕ) → text ≡ rest → Telling a a text rest
none_yet a text rest e = record { front = []; parts = e; gathered = Gathers-nil a }

pub told_more : (a b c : Outgoing) (text rest next bs : List ℕ) → Telling a b text rest → Gathers b c bs → rest ≡ bs ++ next → Telling a c text next
told_more a b c text rest next bs w h e = record {
  front = w.front ++ bs;
  parts = w.parts ∙ ap (λ (xs : List ℕ). w.front ++ xs) e ∙ sym (append_assoc w.front bs next);
  gathered = Gathers-trans a b c w.front bs w.gathered h;
}

-- the next piece broke off
pub breaks_inside : (a b c : Outgoing) (text rest next bs : List ℕ) → Telling a b text rest → Breaks b c bs → rest ≡ bs ++ next → Breaks a c text
breaks_inside a b c text rest next bs w s e = subst (Breaks a c)
    (append_assoc w.front bs next ∙ ap (λ (xs : List ℕ). w.front ++ xs) (sym e) ∙ sym w.parts)
    (Breaks-longer a c (w.front ++ bs) next (Breaks-after a b c w.front bs w.gathered s))

pub all_told : (a b : Outgoing) (text rest : List ℕ) → Telling a b text rest → rest ≡ [] → Gathers a b text
all_told a b text rest w none = subst (Gathers a b) (sym (w.parts ∙ ap (λ (t : List ℕ). w.front ++ t) none ∙ append-nil w.front)) w.gathered

-- ---- a text that goes out

-- what was pending went out, and nothing else
pub released : {A E : Type 0} (a b : Option (List ℕ)) (p q : List ℕ) (r : Result A E) → Puts a b p r → q ≡ [] → Tells (outgoing a p) (outgoing b q) [] r
released a b p q (Ok x) h none = record { front = p; parts = ap (λ (t : List ℕ). p ++ t) (sym none); appended = h }
released a b p q (Err e) h none = subst (Stops a b) (sym (append-nil p)) h

-- a piece that goes out behind what was pending
pub told_past : {A E : Type 0} (a b c : Option (List ℕ)) (p q xs : List ℕ) (r : Result A E) → Appends a b p → q ≡ [] → Puts b c xs r → Tells (outgoing a p) (outgoing c q) xs r
told_past a b c p q xs (Ok x) h none t = record { front = p ++ xs; parts = sym (append-nil (p ++ xs)) ∙ ap (λ (t : List ℕ). (p ++ xs) ++ t) (sym none); appended = Appends-trans a b c p xs h t }
told_past a b c p q xs (Err e) h none t = stops_after a b c p xs h t

-- a piece that has room
pub appended : (a b : Option (List ℕ)) (p q xs : List ℕ) → b ≡ a → q ≡ p ++ xs → Gathers (outgoing a p) (outgoing b q) xs
appended a b p q xs same e = record { front = []; parts = sym e; appended = subst (λ (o : Option (List ℕ)). Appends a o []) (sym same) (Appends-nil a) }

-- a text that is told from none on, and goes out
pub all_out : {A E : Type 0} (a : Option (List ℕ)) (b : Outgoing) (c : Option (List ℕ)) (p xs : List ℕ) (r : Result A E) → p ≡ [] → Gathers (outgoing a p) b xs → Puts b.contents c b.pending r → Puts a c xs r
all_out a b c p xs (Ok x) none g h = subst (Appends a c) (sym g.parts ∙ ap (λ (t : List ℕ). t ++ xs) none) (Appends-trans a b.contents c g.front b.pending g.appended h)
all_out a b c p xs (Err e) none g h = subst (Stops a c) (sym g.parts ∙ ap (λ (t : List ℕ). t ++ xs) none) (stops_after a b.contents c g.front b.pending g.appended h)

-- a text that is told from none on, of which nothing is pending any more
pub went_out : (a : Option (List ℕ)) (b : Outgoing) (xs : List ℕ) → Gathers (outgoing a []) b xs → b.pending ≡ [] → Appends a b.contents xs
went_out a b xs g none = subst (Appends a b.contents) (sym (g.parts ∙ ap (λ (t : List ℕ). g.front ++ t) none ∙ append-nil g.front)) g.appended

-- what a `?` hands on where a text that is told from none on breaks off
pub broken_out : {A E : Type 0} (Q : E → Type 0) (a b : Option (List ℕ)) (p xs : List ℕ) (r : Result A E) → IsErrAnd r Q → p ≡ [] → Stops a b (p ++ xs) → Puts a b xs r
broken_out Q a b p xs (Ok x) h none s = absurd h
broken_out Q a b p xs (Err e) h none s = subst (λ (t : List ℕ). Stops a b (t ++ xs)) none s
