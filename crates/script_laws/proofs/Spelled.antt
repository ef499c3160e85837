-- Which lines spell undo, and which redo.
use Rattle.script_laws.proofs.Prelude.{◌≡◌, ◌≢◌, inl, inr, ℕ, List, [], ◌∷◌, codes, Ok, ap, ◌∙◌, words, kinds_of, build, word_of, request_of, Spells, WordsSpell, Request, line_ok}
use Rattle.script_reader.specs.Places.{Word}
use Rattle.call_types.specs.declared.command.Command.TheVariants as command
use Rattle.script_reader.specs.declared.command.Request.TheVariants.{Give}
use Rattle.script_reader.specs.declared.name.Name.{Name}
use Rattle.script_reader.specs.declared.name.Name.TheVariants as name

-- the lines that ask for undo and redo
abbrev pub undoing : Request
undoing = Give command.Undo

abbrev pub redoing : Request
redoing = Give command.Redo

alone : (w v : Word) (ws : List Word) → w ≡ v → ws ≡ [] → w ∷ ws ≡ v ∷ []
alone w v ws e none = ap (λ (u : Word). u ∷ ws) e ∙ ap (λ (us : List Word). v ∷ us) none

undo_named : (n : Name) (w : Word) (ws : List Word) → w ≡ word_of n → Spells (kinds_of n) (build n) ws undoing → w ∷ ws ≡ codes "undo" ∷ []
undo_named name.Undo w ws e s = alone w (codes "undo") ws e s.0
undo_named n w ws e s = cc

undo_words : (ws : List Word) → WordsSpell ws undoing → ws ≡ codes "undo" ∷ []
undo_words [] e = absurd (cc e)
undo_words (w ∷ ws) (inl h) = absurd (cc h.1)
undo_words (w ∷ ws) (inr (n, e, s)) = undo_named n w ws e s

-- a line that isn't this word alone doesn't spell it
pub no_undo : (line : List ℕ) → words line ≢ codes "undo" ∷ [] → request_of line ≢ Ok undoing
no_undo line other e = other (undo_words (words line) (line_ok line undoing e).2)

redo_named : (n : Name) (w : Word) (ws : List Word) → w ≡ word_of n → Spells (kinds_of n) (build n) ws redoing → w ∷ ws ≡ codes "redo" ∷ []
redo_named name.Redo w ws e s = alone w (codes "redo") ws e s.0
redo_named n w ws e s = cc

redo_words : (ws : List Word) → WordsSpell ws redoing → ws ≡ codes "redo" ∷ []
redo_words [] e = absurd (cc e)
redo_words (w ∷ ws) (inl h) = absurd (cc h.1)
redo_words (w ∷ ws) (inr (n, e, s)) = redo_named n w ws e s

-- a line that isn't this word alone doesn't spell it
pub no_redo : (line : List ℕ) → words line ≢ codes "redo" ∷ [] → request_of line ≢ Ok redoing
no_redo line other e = other (redo_words (words line) (line_ok line redoing e).2)
