-- The line of a face in a listing.
use Rattle.script_laws.proofs.Prelude.{◌≡◌, ◌⊎◌, inl, inr, ℕ, true, List, [], ◌∷◌, ◌++◌, map, ap, refl, sym, ◌∙◌, arith, append_assoc, true≢false, nat_eq, nat_tests, cases_Bool, Face, Has, Model, Solid, outer, rings_of, solid_of, kind_lines, line, line_text, lines, listing, numbers_of, or_empty, text_of}
use Rattle.solid_listing.proofs.Lines.{member_used}
use Rattle.solid_walks.proofs.face_walks_laws.Above.{member}
use Rattle.script_laws.specs.Laws.{ListsFace}
use Rattle.script_laws.specs.Scripts.{EndsLine}
use Rattle.script_laws.proofs.Behind.{ends_append}
use Rattle.script_laws.proofs.Texts.{AreOthers, line_ends, listing_others}

IsAmong : List (List ℕ) → List (List (List ℕ)) → Type 0
IsAmong l [] = ⊥
IsAmong l (m ∷ ls) = (m ≡ l) ⊎ IsAmong l ls

among_text : (l : List (List ℕ)) (ls : List (List (List ℕ))) → AreOthers ls → IsAmong l ls
    → (front behind : List ℕ) × EndsLine front × (text_of ls ≡ front ++ (line_text l ++ behind))
unfolding IsAmong
among_text l [] h i = absurd i
among_text l (m ∷ ls) h (inl e) = ([], text_of ls, inl refl, ap (λ (k : List (List ℕ)). line_text k ++ text_of ls) e)
among_text l (m ∷ ls) h (inr i) =
    let (front, behind, ends, is) = among_text l ls h.1 i in
    (line_text m ++ front, behind, ends_append (line_text m) front (line_ends m h.0) ends, ap (λ (t : List ℕ). line_text m ++ t) is ∙ sym (append_assoc (line_text m) front (line_text l ++ behind)))

among_left : (l : List (List ℕ)) (ls ms : List (List (List ℕ))) → IsAmong l ls → IsAmong l (ls ++ ms)
unfolding IsAmong
among_left l [] ms i = absurd i
among_left l (k ∷ ls) ms (inl e) = inl e
among_left l (k ∷ ls) ms (inr i) = inr (among_left l ls ms i)

among_right : (l : List (List ℕ)) (ls ms : List (List (List ℕ))) → IsAmong l ms → IsAmong l (ls ++ ms)
unfolding IsAmong
among_right l [] ms i = i
among_right l (k ∷ ls) ms i = inr (among_right l ls ms i)

among_some : (l : List (List ℕ)) (ls : List (List (List ℕ))) → IsAmong l ls → IsAmong l (or_empty ls)
unfolding IsAmong
among_some l [] i = absurd i
among_some l (k ∷ ls) i = i

equal : (n k : ℕ) → nat_eq n k ≡ true → n ≡ k
equal n k e = grind (arith, nat_tests)

among_mapped : (g : ℕ → List (List ℕ)) (ns : List ℕ) (n : ℕ) → member n ns ≡ true → IsAmong (g n) (map g ns)
unfolding IsAmong
among_mapped g [] n e = absurd (true≢false (sym e))
among_mapped g (k ∷ ks) n e = elim (cases_Bool (nat_eq n k)) [ inl is ↦ inl (ap g (sym (equal n k is))) | inr isnt ↦ inr (among_mapped g ks n (rw isnt at e)) ]

face_among : (M : Model) (f : ℕ) → Has M.faces f → IsAmong (line M Face f) (lines M)
unfolding lines
face_among M f there = among_right (line M Face f) (kind_lines M Solid) _ (among_left (line M Face f) (kind_lines M Face) _ (among_mapped (line M Face) (numbers_of M Face) f (member_used M Face f ∙ there)))

-- a face that is there has a line, which names its solid
pub face_listed : (M : Model) (f : ℕ) → Has M.faces f → ListsFace f (solid_of M f) (listing M)
unfolding listing
face_listed M f there =
    let (front, behind, ends, is) = among_text (line M Face f) (or_empty (lines M)) (listing_others M) (among_some (line M Face f) (lines M) (face_among M f there)) in
    (front, behind, outer M f ∷ rings_of M f, ends, is)
