-- A lone loop that is no ring goes with its face: by itself it is a solid, or it becomes one first.
use Rattle.reached_models.proofs.Prelude.{◌≡◌, ◌≢◌, ℕ, ◌+◌, Bool, true, false, cond, not, nat_eq, ◌&&◌, ◌||◌, List, [], ◌∷◌, None, is_some, refl, sym, ap, ◌∙◌, subst, arith, true≢false, inl, inr, ne_eqb, eqb-true, nat_tests, eqb_tells, and_parts, not-true, eqb-false, mate, Model, FaceRow, lone, loop_of, content, face_of, solid_of, outer, faces_of, lone_vertex, lists, head_or_zero, Sound, Has, HasHalf, face_at, first_false, effect, kvfs_at, part, content_cycle, mate_there, loop_there, row_some, solid_row, same_content, Op, Kvfs, Part, size, KvfsGoes, faces_one, OtherSolids, PartGoes, part_accepted, size-remove, size-map_rows, in_faces, face_in, first_listed}
use Rattle.euler_operators.specs.Table as table
use Rattle.euler_laws.proofs.faces.Solids.{kvfs_accepted}
use Rattle.euler_laws.proofs.merge.Part as parting
use Rattle.euler_laws.proofs.merge.Merge.{face_same}
use Rattle.reached_models.proofs.Free.{Free, free_number, one_missed}
use Rattle.reached_models.proofs.Found.{NonePasses, found_or_none}
use Rattle.reached_models.proofs.Weights.{Shrinks, shrinks_by, shrinks_after, as_heavy, weight}
use Rattle.reached_models.proofs.Steps.{NoRings}

-- a solid with one face and one lone loop goes
module _ (M : Model) (sound : Sound M) (s f : ℕ) (goes : KvfsGoes M s f) where
  bare_accepted : first_false M (Kvfs s) ≡ None
  bare_accepted = kvfs_accepted M s f sound goes

  bare_sizes : (size (effect M (Kvfs s)).edges ≡ size M.edges) × (size (effect M (Kvfs s)).loops + 1 ≡ size M.loops) × (size (effect M (Kvfs s)).faces + 1 ≡ size M.faces)
  unfolding effect kvfs_at
  bare_sizes =
      let e : head_or_zero (faces_of M s) ≡ f = ap head_or_zero (faces_one M s f goes) in
      let face = row_some (table.get M.faces f) goes.f_there in
      let loop = row_some (table.get M.loops (outer M f)) (sound.outers_there f goes.f_there).0 in (
        refl,
        ap (λ g. size (table.remove M.loops (outer M g)) + 1) e ∙ size-remove M.loops (outer M f) loop.0 loop.1,
        ap (λ g. size (table.remove M.faces g) + 1) e ∙ size-remove M.faces f face.0 face.1,
      )

  bare_goes : Shrinks M
  bare_goes = let w = bare_sizes in shrinks_by M (Kvfs s) tt sound bare_accepted (omega (arith, w.0, w.1, w.2))

module _ (M : Model) (sound : Sound M) (ringless : NoRings M) (f v : ℕ) (there : Has M.faces f) (bare : content M (outer M f) ≡ lone v) where
  only_loop : (q : ℕ) → Has M.loops q → face_of M q ≡ f → outer M f ≡ q
  only_loop q t e = ap (outer M) (sym e) ∙ ringless q t

  is_lone_loop : content M (outer M f) ≡ lone (lone_vertex (content M (outer M f)))
  is_lone_loop = bare ∙ ap lone (sym (ap lone_vertex bare))

  -- no half-edge stands in its loop
  nowhere : (x : ℕ) → HasHalf M x → face_at M x ≢ f
  nowhere x t e =
      let a : content M (loop_of M x) ≡ lone v = ap (content M) (sym (only_loop (loop_of M x) (loop_there M sound x t) e)) ∙ bare in
      let b = content_cycle M sound x t in
      cc

  -- the face is all that its solid has
  alone_goes : ((q : ℕ) → Has M.faces q → solid_of M q ≡ solid_of M f → q ≡ f) → KvfsGoes M (solid_of M f) f
  alone_goes only = record { s_there = sound.faces_of_solids f there; f_there = there; of_s = refl; only = only; no_rings = only_loop; is_bare = is_lone_loop }

  unlisted : (x : ℕ) → HasHalf M x → lists (f ∷ []) (face_at M x) ≡ false
  unlisted x t = let ne : nat_eq f (face_at M x) ≡ false = ne_eqb f (face_at M x) (λ e. nowhere x t (sym e)) in ap (λ b. b || false) ne

  listed_is : (q : ℕ) → lists (f ∷ []) q ≡ true → q ≡ f
  listed_is q l = grind (arith, nat_tests)

  module _ (g : ℕ) (g_there : Has M.faces g) (same : solid_of M g ≡ solid_of M f) (apart : g ≢ f) where
    -- there is a number for a solid, since there are fewer solids than faces
    solid : Free M.solids
    solid = free_number M.solids M.faces sound.solids_fit sound.faces_fit (one_missed M.solids M.faces (λ s. head_or_zero (faces_of M s)) (solid_of M)
        (λ s t. (first_face s t).0) (λ s t. (first_face s t).1) g f g_there there apart same) where
          head_in : (ns : List ℕ) (q : ℕ) → lists ns q ≡ true → lists ns (head_or_zero ns) ≡ true
          head_in [] q l = absurd (true≢false (sym l))
          head_in (n ∷ ns) q l = first_listed n ns

          first_face : (s : ℕ) → Has M.solids s → Has M.faces (head_or_zero (faces_of M s)) × (solid_of M (head_or_zero (faces_of M s)) ≡ s)
          first_face s t = let x = sound.solid_has_face s t in face_in M s (head_or_zero (faces_of M s)) (head_in (faces_of M s) x.0 (in_faces M s x.0 x.1 x.2))

    parts : PartGoes M (solid_of M f) solid.number (f ∷ [])
    parts = record {
      s_there = sound.faces_of_solids f there;
      t_free = solid.free;
      t_fits = solid.fits;
      each = λ q l. let e = listed_is q l in (subst (Has M.faces) (sym e) there, ap (solid_of M) e);
      listed = (f, first_listed f []);
      rises = refl;
      left = (g, g_there, same, ap (λ b. b || false) (ne_eqb f g (λ e. apart (sym e))));
      whole = λ x t. unlisted x t ∙ sym (unlisted (mate x) (mate_there M x t));
    }

    abbrev op : Op
    op = Part (solid_of M f) solid.number (f ∷ [])

    accepted : first_false M op ≡ None
    accepted = part_accepted M (solid_of M f) solid.number (f ∷ []) sound parts

    abbrev N : Model
    N = part M (solid_of M f) solid.number (f ∷ [])

    effect_is : effect M op ≡ N
    unfolding effect
    effect_is = refl

    sound-N : Sound N
    sound-N = parting.sound-part sound parts

    abbrev other : OtherSolids M N
    other = parting.part_other sound parts

    content_same : (q : ℕ) → content N q ≡ content M q
    content_same q = same_content M N q (ap (λ u. table.get u q) other.loops)

    listed_solid : (q : ℕ) (b : Bool) → Has M.faces q → lists (f ∷ []) q ≡ b → solid_of N q ≡ cond b solid.number (solid_of M q)
    listed_solid q b t e = parting.solid_new sound parts q t ∙ ap (λ c. cond c solid.number (solid_of M q)) e

    new_only : (q : ℕ) → Has N.faces q → solid_of N q ≡ solid.number → q ≡ f
    new_only q t e = elim (eqb_tells q f) [
      | inl p ↦ p.1
      | inr ne ↦
          let q_there : Has M.faces q = sym (other.has_face q) ∙ t in
          let old : solid_of N q ≡ solid_of M q = listed_solid q false q_there (ap (λ b. b || false) (ne_eqb f q (λ p. ne.1 (sym p)))) in
          absurd (parting.not_t sound parts (solid_of M q) (sound.faces_of_solids q q_there) (sym old ∙ e))
    ]

    new_goes : KvfsGoes N solid.number f
    new_goes = record {
      s_there = parting.t_new sound parts;
      f_there = other.has_face f ∙ there;
      of_s = listed_solid f true there (first_listed f []);
      only = new_only;
      no_rings = λ q t e. other.outers f ∙ only_loop q (sym (ap (λ u. table.has u q) other.loops) ∙ t) (sym (face_same other q) ∙ e);
      is_bare = let c : content N (outer N f) ≡ content M (outer M f) = ap (content N) (other.outers f) ∙ content_same (outer M f) in
          c ∙ is_lone_loop ∙ ap (λ k. lone (lone_vertex k)) (sym c);
    }

    same_weight : weight N ≡ weight M
    unfolding part
    same_weight = as_heavy M N sound sound-N refl refl (size-map_rows _ M.faces)

    part_goes : Shrinks M
    part_goes = shrinks_after M N op tt accepted effect_is same_weight (bare_goes N sound-N solid.number f new_goes)

  abbrev other_face : ℕ → FaceRow → Bool
  other_face q row = not (nat_eq q f) && nat_eq row.solid (solid_of M f)

  no_other : NonePasses other_face M.faces → (q : ℕ) → Has M.faces q → solid_of M q ≡ solid_of M f → q ≡ f
  no_other none q t e =
      let w = row_some (table.get M.faces q) t in
      let fails = none q w.0 w.1 in
      let is : solid_of M q ≡ w.0.solid = solid_row M q w.0 w.1 in
      grind (arith, nat_tests)

  -- whether its solid has other faces or not
  pub lone_goes : Shrinks M
  lone_goes = elim (found_or_none other_face M.faces) [
    | inl w ↦
        let p : (not (nat_eq w.number f) ≡ true) × (nat_eq w.row.solid (solid_of M f) ≡ true) = and_parts (not (nat_eq w.number f)) (nat_eq w.row.solid (solid_of M f)) w.passes in
        part_goes w.number (ap is_some w.at) (solid_row M w.number w.row w.at ∙ eqb-true _ _ p.1) (eqb-false _ _ (not-true _ p.0))
    | inr none ↦ bare_goes M sound (solid_of M f) f (alone_goes (no_other none))
  ]
