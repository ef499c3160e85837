-- Scripts that come to equal listings.
use Rattle.script_laws.proofs.Prelude.{◌≡◌, ℕ, false, List, [], ◌∷◌, codes, refl, sym, subst, ◌∙◌, false≢true, Sound, Machine, held, Journal, new_journal, lines_of, listing, answer_of, HasHistory, LinesLeadOn, HistoriesMakeConsistent, judges_to, EqualListingsGoOnAlike}
use Rattle.solid_listing.specs.Telling.{ListingTells}
use Rattle.script_laws.proofs.Behind.{after, reached, from_adds, alike}
use Rattle.script_laws.proofs.Undone.{list_text}
use Rattle.script_laws.proofs.Alike.{lines_alike}

has_history : LinesLeadOn → (s : Journal) (lines : List (List ℕ)) → HasHistory s.machine → HasHistory (after s.machine lines)
has_history lead s [] h = h
has_history lead s (line ∷ lines) h =
    let (t, judged, is) = judges_to s line in
    subst (λ (m : Machine). HasHistory (after m lines)) is (has_history lead t lines (lead s t line (answer_of s.machine line) h judged))

pub holds_sound : LinesLeadOn → HistoriesMakeConsistent → (script : List ℕ) → Sound (held (reached script))
holds_sound lead consistent script = (consistent (reached script) (has_history lead new_journal (lines_of script) (record { calls = []; lead = refl }))).held_sound

pub equal_listings : LinesLeadOn → HistoriesMakeConsistent → ListingTells → EqualListingsGoOnAlike
equal_listings lead consistent tells one other text h k a b more reply lacks =
    let s = reached one in
    let t = reached other in
    let listed : listing (held s) ≡ listing (held t) =
    sym (list_text s) ∙ from_adds one (codes "list\n") text h a ∙ sym (from_adds other (codes "list\n") text k b) ∙ list_text t in
    let same : held s ≡ held t = (tells (held s) (held t) (holds_sound lead consistent one) (holds_sound lead consistent other)).0 listed in
    alike one other more reply h k (lines_alike false s t (lines_of more) (record { present = same; behind = λ e. absurd (false≢true e) }) lacks.1 (λ _. lacks.0))
