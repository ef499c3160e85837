-- A corner that begins as a lone loop does.
use Rattle.script_reader.proofs.Prelude.{◌≡◌, ℕ, ◌≤◌, List, [], ◌∷◌, length, get_or, refl, sym, subst, arith, ◌∙◌, first_by, lone_of, corner_of}
use Rattle.script_reader.proofs.FirstLaws.{first_longer}

pub lone_first : (line : List ℕ) → 1 ≤ length line → get_or line 0 0 ≡ 64 → first_by lone_of line ≡ first_by corner_of line
lone_first [] some is = absurd (omega arith)
lone_first (c ∷ cs) some is =
    let sign : c ≡ 64 = is in
    let same : first_by lone_of (64 ∷ cs) ≡ first_by corner_of (64 ∷ cs) = first_longer lone_of 64 cs refl ∙ sym (first_longer corner_of 64 cs refl) in
    subst (λ (b : ℕ). first_by lone_of (b ∷ cs) ≡ first_by corner_of (b ∷ cs)) (sym sign) same
