-- Points that are read one after the other.
use Rattle.script_reader.proofs.Prelude.{◌≡◌, ◌≢◌, ℕ, zero, suc, ◌-◌, ◌<◌, List, [], ◌∷◌, ◌++◌, length, Result, Ok, Err, refl, sym, ap, ◌∙◌, append_assoc, arith, length-append, Point, Fault, Word, ◌>>=◌, point_of, points_of}

-- what was read before, and what is still read
abbrev pub with_front : List Point → Result (List Point × List Word) Fault → Result (List Point × List Word) Fault
with_front front found = found >>= λ x. Ok (front ++ x.0, x.1)

regroup : (front : List Point) (p : Point) (found : Result (List Point × List Word) Fault) → with_front front (found >>= λ x. Ok (p ∷ x.0, x.1)) ≡ with_front (front ++ p ∷ []) found
regroup front p (Ok x) = ap (λ (ps : List Point). Ok (ps, x.1)) (simp append_assoc)
regroup front p (Err f) = refl

pub goes_on : (front new : List Point) (p : Point) (ws after : List Word) (total : Result (List Point × List Word) Fault) → length front < 64 → new ≡ front ++ p ∷ [] → point_of ws ≡ Ok (p, after)
    → with_front front (points_of (64 - length front) ws) ≡ total → with_front new (points_of (64 - length new) after) ≡ total
goes_on front new p [] after total lt e h so_far = absurd cc
goes_on front new p (w ∷ ws) after total lt e h so_far =
    let k : 64 - length front ≡ suc (64 - length new) = rw e (simp length-append (omega arith)) in
    let one : with_front front (points_of (64 - length front) (w ∷ ws)) ≡ with_front new (points_of (64 - length new) after) = rw (k, h) (regroup front p (points_of (64 - length new) after) ∙ ap (λ (f : List Point). with_front f (points_of (64 - length new) after)) (sym e)) in
    sym one ∙ so_far

pub ends : (front : List Point) (ws : List Word) (f : Fault) (total : Result (List Point × List Word) Fault) → length front < 64 → ws ≢ [] → point_of ws ≡ Err f
    → with_front front (points_of (64 - length front) ws) ≡ total → total ≡ Err f
ends front [] f total lt some h so_far = absurd (some refl)
ends front (w ∷ ws) f total lt some h so_far =
    let k : 64 - length front ≡ suc (63 - length front) = omega arith in
    let one : with_front front (points_of (64 - length front) (w ∷ ws)) ≡ Err f = rw (k, h) refl in
    sym so_far ∙ one

pub no_words : (room : ℕ) → points_of room [] ≡ Ok ([], [])
no_words zero = refl
no_words (suc room) = refl

pub begins : (found : Result (List Point × List Word) Fault) → with_front [] found ≡ found
begins (Ok x) = refl
begins (Err f) = refl
