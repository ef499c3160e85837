use Rattle.solid_listing.proofs.Prelude.{◌≡◌, sym, subst, ℕ, List, [], ◌∷◌, ◌++◌, map, codes, decimal, err_from_is_err_and, Face, Model, solid_of, outer, rings_of, spaced, line_text, line, Gathers, outgoing}
use Rattle.solid_listing.proofs.LineLaws.{line_parts}
use Rattle.solid_listing.proofs.TellingLaws.{Breaks, Breaks-longer, Breaks-after, tells_as, tells_after}
use Rattle.solid_listing.proofs.entry.write_face.Goals as goal

-- the first words of the line, the rings, and the newline
abbrev head : Model → ℕ → List ℕ
head M f = codes "face" ++ spaced (map decimal (f ∷ solid_of M f ∷ outer M f ∷ []))

abbrev rings : Model → ℕ → List ℕ
rings M f = spaced (map decimal (rings_of M f))

parts : (M : Model) (f : ℕ) → line_text (line M Face f) ≡ head M f ++ (rings M f ++ 10 ∷ [])
parts M f = line_parts (codes "face") (map decimal (f ∷ solid_of M f ∷ outer M f ∷ [])) (map decimal (rings_of M f))

head_is : (M : Model) (f s o : ℕ) → s ≡ solid_of M f → o ≡ outer M f → codes "face" ++ spaced (map decimal (f ∷ s ∷ o ∷ [])) ≡ head M f
head_is M f s o p q = λ i. codes "face" ++ spaced (map decimal (f ∷ p i ∷ q i ∷ []))

pub returns-in_err-put_words : goal.returns-in_err-put_words
returns-in_err-put_words g c =
    let a = outgoing (g.W.Write.contents c.args.writer.now) c.args.text.now in
    let b = outgoing (g.W.Write.contents c.put_words.new.writer) c.put_words.new.text in
    let p = err_from_is_err_and c.from_residual.result c.from_residual.ensures.1 in
    rw p.1 (subst (Breaks a b) (sym (parts _ _)) (Breaks-longer a b _ _ (subst (Breaks a b) (head_is _ _ _ _ c.solid_of.ensures c.outer.ensures) c.in_err-put_words.ensures)))

pub returns-in_err-write_rings : goal.returns-in_err-write_rings
returns-in_err-write_rings g c =
    let a = outgoing (g.W.Write.contents c.args.writer.now) c.args.text.now in
    let b = outgoing (g.W.Write.contents c.put_words.new.writer) c.put_words.new.text in
    let d = outgoing (g.W.Write.contents c.write_rings.new.writer) c.write_rings.new.text in
    let p = err_from_is_err_and c.from_residual-in_err-write_rings.result c.from_residual-in_err-write_rings.ensures.1 in
    let wrote = subst (Gathers a b) (head_is _ _ _ _ c.solid_of.ensures c.outer.ensures) c.in_ok-put_words.ensures in
    rw p.1 (subst (Breaks a d) (sym (parts _ _)) (Breaks-after a b d _ _ wrote (Breaks-longer b d (rings c.args.arena.now.model c.args.f) (10 ∷ []) c.in_err-write_rings.ensures)))

pub returns : goal.returns
returns g c =
    let e = outgoing (g.W.Write.contents c.put.new.writer) c.put.new.text in
    let wrote = subst (Gathers _ _) (head_is _ _ _ _ c.solid_of.ensures c.outer.ensures) c.in_ok-put_words.ensures in
    tells_as _ e _ _ c.put.result (sym (parts _ _)) (tells_after _ _ e _ _ c.put.result wrote (tells_after _ _ e (rings c.args.arena.now.model c.args.f) (10 ∷ []) c.put.result c.in_ok-write_rings.ensures c.put.ensures))
