-- What volumes are answered behind larger commands.
use Rattle.script_laws.proofs.Prelude.{◌≡◌, ◌≢◌, ℕ, List, [], ◌∷◌, ◌++◌, codes, Option, Some, None, is_some, ℤ, pos, ◌+ℤ◌, ◌*ℤ◌, true, false, arith, refl, subst, sym, ap, ◌∙◌, signed_decimal, Plane, Point, Model, Sound, Has, direction, dot, is_number, lamina_model, solid_of, Refusal, NoSolid, normal, Machine, held, block, block_refusal, sweep, sweep_refusal, plane_with, split, split_refusal, answer, face_refusal, solid_refusal, six_volume, Question, Command, Told, asked, value_or_refusal, Request, spaced, listing, reply_text, LinesLeadOn, HistoriesMakeConsistent, asked_for, answer_text, moved, obeyed, given, answer_of, machine_after, EndsLine, ended, Adds, volume_answer, BlocksMeasure, PartsShareVolumes, SweepsMeasure, GluesMeasure, Done, counts}
use Rattle.euler_operators.specs.Table as table
use Rattle.euler_operators.proofs.Common.{get-put_other, get-remove_other}
use Rattle.euler_operators.specs.Common.{part}
use Rattle.shapes.specs.Common.{base_of, block_model, faces_above, glue_model, is_flat, lamina_face, plane_of, split_model, vector, with_drawings}
use Rattle.shapes.specs.Common as shapes
use Rattle.split_laws.proofs.volumes.Split.{solids_stay, split_is}
use Rattle.split_laws.proofs.drawn.Drawn.{begins, drawn_keeps}
use Rattle.split_laws.proofs.measures.Splittable.{can_be_split}
use Rattle.split_drawing_laws.proofs.crossings.Whole.{crossings_keep}
use Rattle.command_laws.proofs.Kept.{prism_keeps}
use Rattle.shapes.proofs.glue.Facts.{glue_goes}
use Rattle.sweeps_laws.proofs.prism.Accepted.{face_there}
use Rattle.sweeps.specs.Measures.{NewBlock, OthersThanBlock, OthersThanSwept, SweptSolid}
use Rattle.gluing.specs.Machine.{glue, glue_refusal}
use Rattle.gluing.specs.Measures.{GluedSolid, OthersThanGlued}
use Rattle.plane_split.specs.SplitModels.{HeldKeepOthers, HeldShareVolumes, PartsAreHeld}
use Rattle.command_laws.specs.Solids.{BlocksAreThere, GluesJoinSolids, SweepsKeepSolids, SweptAreThere}
use Rattle.call_types.specs.declared.command.Change.TheVariants as change
use Rattle.call_types.specs.declared.command.Question.TheVariants as question
use Rattle.call_types.specs.declared.command.Command.TheVariants as command
use Rattle.solid_listing.specs.declared.told.Told.TheVariants as told
use Rattle.script_reader.specs.declared.command.Request.TheVariants as request
use Rattle.script_laws.specs.Laws.{ListsFace, Spells}
use Rattle.script_laws.proofs.Behind.{reached, from_adds, adds_from, ends_append, ends_line}
use Rattle.script_laws.proofs.Kept.{one_answer, reached_line}
use Rattle.script_laws.proofs.InListings.{face_listed}
use Rattle.script_laws.proofs.Undone.{answer_is, goes, list_text, machine_is}
use Rattle.script_laws.proofs.Alike.{answered_ok}
use Rattle.script_laws.proofs.Listed.{holds_sound}

not_refused : (o : Option Refusal) (s next : Machine) → (moved o s next).0 ≡ Done → o ≡ None
not_refused None s next e = refl
not_refused (Some r) s next e = absurd (cc e)

solid_told : (M : Model) (n : ℕ) → Sound M → Has M.solids n → solid_refusal M n ≡ None
solid_told M n sound there = rw (sound.solids_fit n there, there) refl

volume_told : (s : Machine) (n : ℕ) → solid_refusal (held s) n ≡ None → value_or_refusal (answer (solid_refusal (held s) n) (told.Volume (six_volume (held s) n))) ≡ told.Volume (six_volume (held s) n)
volume_told s n e = ap (λ (o : Option Refusal). value_or_refusal (answer o (told.Volume (six_volume (held s) n)))) e

volume_text : (z : ℤ) → reply_text (told.Volume z) ≡ ended (codes "volume" ++ spaced (signed_decimal z ∷ []))
unfolding reply_text
volume_text z = refl

head : List ℕ → ℕ
head [] = 0
head (b ∷ bs) = b

refused_head : (s : Machine) (r : Refusal) (z : ℤ) → answer_text s (told.Refused r) ≡ volume_answer z → ⊥
unfolding reply_text head
refused_head s r z e = absurd (omega (arith, ap head e))

-- where a volume was answered, the solid is there
was_told : (s : Machine) (o : Option Refusal) (w z : ℤ) → answer_text s (value_or_refusal (answer o (told.Volume w))) ≡ volume_answer z → o ≡ None
was_told s None w z e = refl
was_told s (Some r) w z e = absurd (refused_head s r z e)

-- ---- lines that spell commands

some_command : Command → Option Command → Command
some_command d None = d
some_command d (Some c) = c

obeys : (s : Machine) (r : Request) (c : Command) → asked_for r ≡ Some c → obeyed s r ≡ given s c
unfolding some_command
obeys s request.Nothing c e = absurd (cc e)
obeys s request.List c e = absurd (cc e)
obeys s (request.Over o ps) c e = ap (λ (o : Option Command). given s (some_command c o)) e
obeys s (request.Give d) c e = ap (λ (o : Option Command). given s (some_command c o)) e

-- what a line that spells a command is answered, and the machine after it
module _ (line : List ℕ) (c : Command) (spells : Spells line c) (s : Machine) where
  answered_so : answer_of s line ≡ (given s c).0
  answered_so = let a = spells.1 in answer_is s line a.0 a.1 ∙ ap (λ (x : Told × Machine). x.0) (obeys s a.0 c a.2)

  leads_so : machine_after s line ≡ (given s c).1
  leads_so = let a = spells.1 in machine_is s line a.0 a.1 ∙ ap (λ (x : Told × Machine). x.1) (obeys s a.0 c a.2)

-- ---- questions

-- the text of an answer to a question is the same behind any machine
same_value : (s t : Machine) (o : Option Refusal) (v : Told) → answer_text s v ≡ answer_text t v → answer_text s (value_or_refusal (answer o v)) ≡ answer_text t (value_or_refusal (answer o v))
same_value s t None v e = e
same_value s t (Some r) v e = refl

same_text : (s t : Machine) (M : Model) (q : Question) → answer_text s (asked M q) ≡ answer_text t (asked M q)
same_text s t M (question.Plane f) = same_value s t (face_refusal M f) (told.Plane (plane_of M f) (is_flat M f)) refl
same_text s t M (question.Volume n) = same_value s t (solid_refusal M n) (told.Volume (six_volume M n)) refl
same_text s t M (question.Count n) = same_value s t (solid_refusal M n) (told.Counts (counts M n)) refl

-- a question about a model that is held is answered so
pub asks : (script ask : List ℕ) (q : Question) (text : List ℕ) → EndsLine script → Spells ask (command.Ask q) → answer_text (reached script) (asked (held (reached script)) q) ≡ text → Adds script (ended ask) text
asks script ask q text h spells is =
    let s = reached script in
    adds_from script (ended ask) text h (one_answer s ask spells.0 ∙ ap (answer_text (machine_after s ask)) (answered_so ask (command.Ask q) spells s) ∙ same_text (machine_after s ask) s (held s) q ∙ is)

was_asked : (script ask : List ℕ) (q : Question) (text : List ℕ) → EndsLine script → Spells ask (command.Ask q) → Adds script (ended ask) text → answer_text (reached script) (asked (held (reached script)) q) ≡ text
was_asked script ask q text h spells before =
    let s = reached script in
    same_text s (machine_after s ask) (held s) q ∙ ap (answer_text (machine_after s ask)) (sym (answered_so ask (command.Ask q) spells s)) ∙ sym (one_answer s ask spells.0) ∙ from_adds script (ended ask) text h before

-- what the volume of a solid that is there is answered
pub volume_adds : (script ask : List ℕ) (n : ℕ) (z : ℤ) → EndsLine script → Spells ask (command.Ask (question.Volume n)) → solid_refusal (held (reached script)) n ≡ None → six_volume (held (reached script)) n ≡ z → Adds script (ended ask) (volume_answer z)
volume_adds script ask n z h spells there is =
    asks script ask (question.Volume n) (volume_answer z) h spells (ap (answer_text (reached script)) (volume_told (reached script) n there) ∙ ap (λ (v : ℤ). reply_text (told.Volume v)) is ∙ volume_text z)

-- the machine behind a line that was answered `ok`
module _ (script line : List ℕ) (c : Command) (o : Option Refusal) (next : Machine) (h : EndsLine script) (spells : Spells line c)
    (is : given (reached script) c ≡ moved o (reached script) next) (added : Adds script (ended line) (codes "ok\n")) where
  none_refused : o ≡ None
  none_refused = not_refused o (reached script) next (ap (λ (x : Told × Machine). x.0) (sym is) ∙ sym (answered_so line c spells (reached script)) ∙ answered_ok script line h spells.0 added)

  made : reached (script ++ ended line) ≡ next
  made = reached_line script line h spells.0 ∙ leads_so line c spells (reached script) ∙ ap (λ (x : Told × Machine). x.1) is ∙ (goes o (reached script) next none_refused).1

-- ---- a solid that stays

same_refusal : (M N : Model) (n : ℕ) → table.has N.solids n ≡ table.has M.solids n → solid_refusal N n ≡ solid_refusal M n
same_refusal M N n e = rw e refl

same_volume : (M N : Model) (n : ℕ) → table.has N.solids n ≡ table.has M.solids n → six_volume N n ≡ six_volume M n → asked N (question.Volume n) ≡ asked M (question.Volume n)
same_volume M N n e is = ap (λ (o : Option Refusal). value_or_refusal (answer o (told.Volume (six_volume N n)))) (same_refusal M N n e)
    ∙ ap (λ (v : ℤ). value_or_refusal (answer (solid_refusal M n) (told.Volume v))) is

-- its volume is answered as before
as_before : (script line ask text : List ℕ) (n : ℕ) → EndsLine script → Spells ask (command.Ask (question.Volume n)) → Adds script (ended ask) text
    → table.has (held (reached (script ++ ended line))).solids n ≡ table.has (held (reached script)).solids n
    → six_volume (held (reached (script ++ ended line))) n ≡ six_volume (held (reached script)) n → Adds (script ++ ended line) (ended ask) text
as_before script line ask text n h asks_so before there volume =
    let s = reached script in
    let t = reached (script ++ ended line) in
    asks (script ++ ended line) ask (question.Volume n) text (ends_append script (ended line) h (ends_line line)) asks_so
    (ap (answer_text t) (same_volume (held s) (held t) n there volume) ∙ same_text t s (held s) (question.Volume n) ∙ was_asked script ask (question.Volume n) text h asks_so before)

-- a block, a glue and a split leave the solids other than their own
lamina_leaves : (M : Model) (n : ℕ) (ps : List Point) (u : ℕ) → u ≢ n → table.has (lamina_model M n ps).solids u ≡ table.has M.solids u
unfolding lamina_model
lamina_leaves M n ps u other = ap is_some (get-put_other M.solids n tt u other)

block_leaves : (M : Model) (n : ℕ) (p : Point) (dx dy dz : ℤ) (u : ℕ) → u ≢ n → table.has (block_model M n p dx dy dz).solids u ≡ table.has M.solids u
unfolding block_model
block_leaves M n p dx dy dz u other =
    ap (λ t. table.has t u) (prism_keeps (lamina_model M n (base_of p dx dy)) (lamina_face M) (vector (pos 0) (pos 0) dz)).solids ∙ lamina_leaves M n (base_of p dx dy) u other

glue_leaves : (M : Model) (f g u : ℕ) → u ≢ solid_of M g → table.has (glue_model M f g).solids u ≡ table.has M.solids u
unfolding glue_model
glue_leaves M f g u other = ap is_some (get-remove_other M.solids (solid_of M g) u other)

split_solids : (M : Model) (n : ℕ) (p : Plane) (m : ℕ) → Sound M → shapes.split_refusal M n p m ≡ None → (split_model M n p m).solids ≡ table.put M.solids m tt
unfolding split_model part
split_solids M n p m sound none =
    let D = with_drawings M n p in
    ap (λ (N : Model). N.solids) (split_is D (faces_above D.model p n) n p m (can_be_split M n p m sound none))
    ∙ ap (λ t. table.put t m tt)
    (solids_stay D (faces_above D.model p n) n p m (can_be_split M n p m sound none) ∙ (drawn_keeps M n p m sound none).solids ∙ (crossings_keep M n p m sound (begins M n p m sound none)).solids)

split_leaves : (M : Model) (n : ℕ) (p : Plane) (m : ℕ) → Sound M → shapes.split_refusal M n p m ≡ None → (u : ℕ) → u ≢ m → table.has (split_model M n p m).solids u ≡ table.has M.solids u
split_leaves M n p m sound none u other = ap (λ t. table.has t u) (split_solids M n p m sound none) ∙ ap is_some (get-put_other M.solids m tt u other)

plane_looks : (M : Model) (f : ℕ) → normal M f ≡ direction (plane_of M f)
unfolding plane_of normal
plane_looks M f = refl

face_told : (M : Model) (f : ℕ) → Sound M → Has M.faces f → face_refusal M f ≡ None
face_told M f sound there = rw (sound.faces_fit f there, there) refl

gone_told : (M : Model) (n : ℕ) → is_number n ≡ true → table.has M.solids n ≡ false → solid_refusal M n ≡ Some (record { why = NoSolid; number = n })
gone_told M n fits gone = rw (fits, gone) refl

-- ---- the laws

module _ (lead : LinesLeadOn) (consistent : HistoriesMakeConsistent) where
  pub blocks_measure : NewBlock → OthersThanBlock → BlocksAreThere → BlocksMeasure
  blocks_measure measure stay there script line ask n p dx dy dz h spells asks_so added =
      let c = command.Change (change.Block n p dx dy dz) in
      let s = reached script in
      let t = reached (script ++ ended line) in
      let none : block_refusal s n p dx dy dz ≡ None = none_refused script line c (block_refusal s n p dx dy dz) (block s n p dx dy dz) h spells refl added in
      let made : t ≡ block s n p dx dy dz = made script line c (block_refusal s n p dx dy dz) (block s n p dx dy dz) h spells refl added in
      let sound = holds_sound lead consistent script in (
        volume_adds (script ++ ended line) ask n (pos 6 *ℤ dx *ℤ dy *ℤ dz) (ends_append script (ended line) h (ends_line line)) asks_so
            (solid_told (held t) n (holds_sound lead consistent (script ++ ended line)) (there s t n p dx dy dz (none, made))) (measure s t n p dx dy dz sound none made),
        λ others text u other asks_others before. as_before script line others text u h asks_others before
            (ap (λ m. table.has (held m).solids u) made ∙ block_leaves (held s) n p dx dy dz u other) (stay s t n p dx dy dz u sound none made other),
      )

  pub parts_share_volumes : PartsAreHeld → HeldShareVolumes → HeldKeepOthers → PartsShareVolumes
  parts_share_volumes there share stay script line one other n m a b c d z h spells asks_one asks_other before added =
      let p : Plane = plane_with a b c d in
      let cmd = command.Change (change.Split n a b c d m) in
      let s = reached script in
      let t = reached (script ++ ended line) in
      let none : split_refusal s n p m ≡ None = none_refused script line cmd (split_refusal s n p m) (split s n p m) h spells refl added in
      let made : t ≡ split s n p m = made script line cmd (split_refusal s n p m) (split s n p m) h spells refl added in
      let ends : EndsLine (script ++ ended line) = ends_append script (ended line) h (ends_line line) in
      let sound = holds_sound lead consistent script in
      let sound_then = holds_sound lead consistent (script ++ ended line) in
      let parts = there s t n p m sound (none, made) in
      let u = six_volume (held t) n in
      let v = six_volume (held t) m in
      let text = was_asked script one (question.Volume n) (volume_answer z) h asks_one before in (
        u,
        v,
        volume_adds script one n (u +ℤ v) h asks_one (was_told s (solid_refusal (held s) n) (six_volume (held s) n) z text) (share s t n p m sound (none, made)),
        volume_adds (script ++ ended line) one n u ends asks_one (solid_told (held t) n sound_then parts.0) refl,
        volume_adds (script ++ ended line) other m v ends asks_other (solid_told (held t) m sound_then parts.1) refl,
        λ ask told u others asks_so was. as_before script line ask told u h asks_so was
            (ap (λ k. table.has (held k).solids u) made ∙ split_leaves (held s) n p m sound none u others.1) (stay s t n p m u sound (none, made) others.0 others.1),
      )

  pub sweeps_measure : SweptSolid → OthersThanSwept → SweptAreThere → SweepsKeepSolids → SweepsMeasure
  sweeps_measure measure stay there keep script line f d h spells added =
      let cmd = command.Change (change.Sweep f d) in
      let s = reached script in
      let t = reached (script ++ ended line) in
      let none : sweep_refusal s f d ≡ None = none_refused script line cmd (sweep_refusal s f d) (sweep s f d) h spells refl added in
      let made : t ≡ sweep s f d = made script line cmd (sweep_refusal s f d) (sweep s f d) h spells refl added in
      let ends : EndsLine (script ++ ended line) = ends_append script (ended line) h (ends_line line) in
      let sound = holds_sound lead consistent script in
      let sound_then = holds_sound lead consistent (script ++ ended line) in
      let face = face_there (held s) f d sound none in
      let n = solid_of (held s) f in
      let u = six_volume (held s) n in
      let w = u +ℤ pos 3 *ℤ dot (direction (plane_of (held s) f)) d in
      record {
        solid = n;
        plane = plane_of (held s) f;
        flat = is_flat (held s) f;
        faced = λ ask asks_so. asks script ask (question.Plane f) (reply_text (told.Plane (plane_of (held s) f) (is_flat (held s) f))) h asks_so
            (ap (λ (o : Option Refusal). answer_text s (value_or_refusal (answer o (told.Plane (plane_of (held s) f) (is_flat (held s) f))))) (face_told (held s) f sound face));
        grown = λ ask asks_so. (
          u,
          volume_adds script ask n u h asks_so (solid_told (held s) n sound (sound.faces_of_solids f face)) refl,
          volume_adds (script ++ ended line) ask n w ends asks_so (solid_told (held t) n sound_then (there s t f d sound (none, made))) (measure s t f d sound none made ∙ ap (λ (p : Point). u +ℤ pos 3 *ℤ dot p d) (plane_looks (held s) f)),
        );
        others = λ ask text m other asks_so before. as_before script line ask text m h asks_so before (ap (λ r. table.has r m) (keep s t f d (none, made))) (stay s t f d m sound none made other);
      }

  pub glues_measure : GluedSolid → OthersThanGlued → GluesJoinSolids → GluesMeasure
  glues_measure measure stay join script line f g h spells added =
      let cmd = command.Change (change.Glue f g) in
      let s = reached script in
      let t = reached (script ++ ended line) in
      let none : glue_refusal s f g ≡ None = none_refused script line cmd (glue_refusal s f g) (glue s f g) h spells refl added in
      let made : t ≡ glue s f g = made script line cmd (glue_refusal s f g) (glue s f g) h spells refl added in
      let ends : EndsLine (script ++ ended line) = ends_append script (ended line) h (ends_line line) in
      let sound = holds_sound lead consistent script in
      let sound_then = holds_sound lead consistent (script ++ ended line) in
      let faces = glue_goes (held s) f g none in
      let first = solid_of (held s) f in
      let second = solid_of (held s) g in
      let u = six_volume (held s) first in
      let v = six_volume (held s) second in
      let there = join s t f g sound (none, made) in
      record {
        first = first;
        second = second;
        listed = λ text lists.
            let same : listing (held s) ≡ text = sym (list_text s) ∙ from_adds script (codes "list\n") text h lists in
            (subst (ListsFace f first) same (face_listed (held s) f faces.f_there), subst (ListsFace g second) same (face_listed (held s) g faces.g_there));
        joined = λ one other asks_one asks_other. (
          u,
          v,
          volume_adds script one first u h asks_one (solid_told (held s) first sound (sound.faces_of_solids f faces.f_there)) refl,
          volume_adds script other second v h asks_other (solid_told (held s) second sound (sound.faces_of_solids g faces.g_there)) refl,
          volume_adds (script ++ ended line) one first (u +ℤ v) ends asks_one (solid_told (held t) first sound_then there.0) (measure s t f g sound none made),
        );
        gone = λ other asks_other. asks (script ++ ended line) other (question.Volume second) (reply_text (told.Refused (record { why = NoSolid; number = second }))) ends asks_other
            (ap (λ (o : Option Refusal). answer_text t (value_or_refusal (answer o (told.Volume (six_volume (held t) second))))) (gone_told (held t) second (sound.solids_fit second (sound.faces_of_solids g faces.g_there)) there.1));
        others = λ ask text u others asks_so before. as_before script line ask text u h asks_so before
            (ap (λ m. table.has (held m).solids u) made ∙ glue_leaves (held s) f g u others.1) (stay s t f g u sound none made others.0 others.1);
      }
