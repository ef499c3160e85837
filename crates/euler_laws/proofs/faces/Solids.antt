-- mvfs and kvfs as operators: they keep a model sound, and each passes its conditions after the other and takes it back.
use Rattle.euler_laws.proofs.Prelude.{◌≡◌, ℕ, true, false, not, nat_eq, ◌||◌, List, [], ◌∷◌, Some, None, unwrap_or, is_some, refl, sym, ap, ◌∙◌, subst, arith, true≢false, eq-eqb, eqb-true, nat_tests, eqb_tells, not-true, not-false, Point, Model, lone, no_face, content, face_of, solid_of, outer, point_of, faces_of, rings_of, Sound, Has, first_false, conditions, bare_face, has_rings, is_empty, is_lone, lone_vertex, lists, effect, inverse, mvfs, kvfs_at, head_or_zero, put-remove, remove-put, no_row, row_some, get-remove_here, and_first, and_second, Mvfs, Kvfs}
use Rattle.euler_operators.specs.Table as table
use Rattle.euler_laws.proofs.shared.Goes.{all_hold, none_refuses, taken}
use Rattle.euler_laws.proofs.shared.Rows.{face_there, point_row, lone_is, no_rings_means, means_no_rings, solid_row, loop_row}
use Rattle.euler_laws.proofs.shared.Listed.{listed_passes, passes_listed, all_where-rises, one_listed}
use Rattle.euler_laws.proofs.faces.OneSolid as more
use Rattle.euler_laws.proofs.faces.OneSolid.{MvfsGoes, sound-mvfs, sound-back}
use Rattle.euler_laws.proofs.shared.Lawful.{IsLawful}
use Rattle.euler_laws.proofs.shared.Parts.{row_here, has_back, solid_other}

-- what the conditions of kvfs say
pub record KvfsGoes (M : Model) (s f : ℕ) : Type 0 where
  pub s_there : Has M.solids s
  pub f_there : Has M.faces f
  pub of_s : solid_of M f ≡ s
  pub only : (q : ℕ) → Has M.faces q → solid_of M q ≡ s → q ≡ f
  pub no_rings : (q : ℕ) → Has M.loops q → face_of M q ≡ f → outer M f ≡ q
  pub is_bare : content M (outer M f) ≡ lone (lone_vertex (content M (outer M f)))

module _ {M : Model} (sound : Sound M) {s f : ℕ} (goes : KvfsGoes M s f) where
  abbrev pub l : ℕ
  l = outer M f

  abbrev pub v : ℕ
  v = lone_vertex (content M (outer M f))

  abbrev pub p : Point
  p = point_of M (lone_vertex (content M (outer M f)))

  abbrev pub K : Model
  K = kvfs_at M s f

  l_there : Has M.loops l
  l_there = (sound.outers_there f goes.f_there).0

  face_row : table.get M.faces f ≡ Some (record { solid = s; outer = l })
  face_row = face_there M f goes.f_there ∙ ap (λ n. Some (record { solid = n; outer = l })) goes.of_s

  row_l : table.get M.loops l ≡ Some (record { face = f; content = lone v })
  row_l = loop_row M l l_there ∙ (λ i. Some (record { face = (sound.outers_there f goes.f_there).1 i; content = goes.is_bare i }))

  gone : (table.get K.solids s ≡ None) × (table.get K.faces f ≡ None) × (table.get K.loops l ≡ None) × (table.get K.vertices v ≡ None)
  unfolding kvfs_at
  gone = (get-remove_here M.solids s, get-remove_here M.faces f, get-remove_here M.loops l, get-remove_here M.vertices v)

  pub put_goes : MvfsGoes K s f l v p
  put_goes =
      let one = sound.points_fit v p (point_row M v (sound.lone_at_vertex l v goes.is_bare)) in
      let two = sound.vertices_fit v (sound.lone_at_vertex l v goes.is_bare) in let three = point_row M v (sound.lone_at_vertex l v goes.is_bare) in
      let four = sound.lone_at_vertex l v goes.is_bare in
      grind (arith, gone, sound.solids_fit s goes.s_there, goes.s_there, l_there, two, four, goes.is_bare, one, three)

  pub mvfs-kvfs : mvfs K s f l v p ≡ M
  unfolding mvfs kvfs_at
  mvfs-kvfs = grind (arith, put-remove, solid_row, goes.s_there, face_row, row_l, point_row, sound.lone_at_vertex, goes.is_bare)

  pub sound-kvfs : Sound K
  sound-kvfs = sound-back put_goes (subst Sound (sym mvfs-kvfs) sound)
      (λ q t e. let a = more.not_f put_goes q t in
      a (goes.only q (subst (λ X. Has X.faces q) mvfs-kvfs (more.face_on put_goes q t)) (ap (λ X. solid_of X q) (sym mvfs-kvfs) ∙ solid_other (more.faces_put put_goes) q a ∙ e)))
      (λ q t e. let a = more.not_l put_goes q t in
      a (sym (goes.no_rings q (subst (λ X. Has X.loops q) mvfs-kvfs (more.loop_on put_goes q t)) (ap (λ X. face_of X q) (sym mvfs-kvfs) ∙ more.face_of_other put_goes q a ∙ e))))

-- ---- mvfs is taken back by kvfs

module _ {M : Model} (sound : Sound M) {s f l v : ℕ} {p : Point} (goes : MvfsGoes M s f l v p) where
  abbrev N : Model
  N = mvfs M s f l v p

  pub kill_goes : KvfsGoes N s f
  kill_goes = record {
    s_there = ap is_some (row_here (more.solids_put goes));
    f_there = ap is_some (row_here (more.faces_put goes).rows);
    of_s = more.solid_of_new goes;
    only =
        let one = has_back (more.faces_put goes).rows in let two = solid_other (more.faces_put goes) in
        grind (arith, eqb_tells, one, two, more.not_s goes, sound.faces_of_solids);
    no_rings =
        let one = has_back (more.loops_put goes) in
        grind (arith, more.outer_new goes, eqb_tells, one, more.loops_put goes, more.not_f goes, sound.loops_of_faces, more.face_of_other goes);
    is_bare = grind (arith, more.outer_new goes, more.content_new goes);
  }

  pub kvfs-mvfs : kvfs_at N s f ≡ M
  unfolding kvfs_at
  kvfs-mvfs =
      let o : outer N f ≡ l = more.outer_new goes in
      let w : lone_vertex (content N (outer N f)) ≡ v = ap lone_vertex (ap (content N) o ∙ more.content_new goes) in
      let a : table.remove N.solids s ≡ M.solids = ap (λ t. table.remove t s) (more.solids_put goes).are ∙ remove-put M.solids s tt goes.solid_free in
      let b : table.remove N.faces f ≡ M.faces = ap (λ t. table.remove t f) (more.faces_put goes).rows.are ∙ remove-put M.faces f _ goes.face_free in
      let c : table.remove N.loops (outer N f) ≡ M.loops = ap (table.remove N.loops) o ∙ ap (λ t. table.remove t l) (more.loops_put goes).are ∙ remove-put M.loops l _ goes.loop_free in
      let d : table.remove N.vertices (lone_vertex (content N (outer N f))) ≡ M.vertices = ap (table.remove N.vertices) w ∙ ap (λ t. table.remove t v) (more.vertices_put goes).are ∙ remove-put M.vertices v p goes.vertex_free in
      λ i. record { solids = a i; faces = b i; loops = c i; edges = more.edges_same goes i; vertices = d i }

-- ---- conditions

-- the one face of a solid is the first of its list, and all of it
pub faces_one : (M : Model) → (s f : ℕ) → KvfsGoes M s f → faces_of M s ≡ f ∷ []
unfolding solid_of
faces_one M s f goes = grind (arith, one_listed (faces_of M s) f, all_where-rises, passes_listed, listed_passes)

kvfs_facts : (M : Model) (s : ℕ) (fs : List ℕ) → faces_of M s ≡ fs → Has M.solids s → bare_face M fs ≡ true → KvfsGoes M s (head_or_zero fs)
unfolding has_rings solid_of
kvfs_facts M s [] is there e = absurd (true≢false (sym e))
kvfs_facts M s (f ∷ g ∷ fs) is there e = absurd (true≢false (sym e))
kvfs_facts M s (f ∷ []) is there e =
    let x = listed_passes (λ _ row. nat_eq row.solid s) M.faces f (ap (λ ns. lists ns f) is ∙ ap (λ b. b || false) (eq-eqb f f refl)) in
    record {
      s_there = there;
      f_there = ap is_some x.1;
      of_s = ap (λ o. (unwrap_or o no_face).solid) x.1 ∙ eqb-true x.0.solid s x.2;
      only = grind (arith, is, row_some, passes_listed (λ _ row. nat_eq row.solid s) M.faces, nat_tests);
      no_rings = no_rings_means M f (ap not (and_first (is_empty (rings_of M f)) (is_lone (content M (outer M f))) e));
      is_bare = lone_is (content M (outer M f)) (and_second (is_empty (rings_of M f)) (is_lone (content M (outer M f))) e);
    }

pub kvfs_goes : (M : Model) (s : ℕ) → first_false M (Kvfs s) ≡ None → KvfsGoes M s (head_or_zero (faces_of M s))
unfolding first_false conditions
kvfs_goes M s e = let (_, (known, (bare, _))) = all_hold (conditions M (Kvfs s)) e in kvfs_facts M s (faces_of M s) refl known bare

ringless : (N : Model) (f : ℕ) → has_rings N f ≡ false → is_empty (rings_of N f) ≡ true
unfolding has_rings
ringless N f r = not-false (is_empty (rings_of N f)) r

pub kvfs_accepted : (N : Model) (s f : ℕ) → Sound N → KvfsGoes N s f → first_false N (Kvfs s) ≡ None
unfolding first_false conditions
kvfs_accepted N s f sound goes =
    grind (arith, none_refuses, sound.solids_fit, goes.s_there, faces_one, ringless, means_no_rings, goes.no_rings, goes.is_bare)

pub mvfs_goes : (M : Model) (s f l v : ℕ) (p : Point) → first_false M (Mvfs s f l v p) ≡ None → MvfsGoes M s f l v p
unfolding first_false conditions
mvfs_goes M s f l v p e = grind (arith, all_hold (conditions M (Mvfs s f l v p)) e, not-true, no_row)

-- mvfs keeps a sound model sound
pub mvfs_accepted : (N : Model) (s f l v : ℕ) (p : Point) → MvfsGoes N s f l v p → first_false N (Mvfs s f l v p) ≡ None
unfolding first_false conditions
mvfs_accepted N s f l v p goes =
    let one = goes.vertex_fits in let two = goes.vertex_free in let three = goes.solid_fits in let four = goes.solid_free in
    grind (arith, one, two, three, four, none_refuses, goes.face_fits, goes.loop_fits, taken, goes.face_free, goes.loop_free, goes.point_fits)

pub mvfs_lawful : (s f l v : ℕ) (p : Point) → IsLawful (Mvfs s f l v p)
unfolding effect inverse
mvfs_lawful s f l v p M sound e = grind (arith, mvfs_goes, sound-mvfs, kill_goes, kvfs_accepted, faces_one, kvfs-mvfs)

pub kvfs_lawful : (s : ℕ) → IsLawful (Kvfs s)
unfolding effect inverse
kvfs_lawful s M sound e = let f : ℕ = head_or_zero (faces_of M s) in let w = kvfs_goes M s e in record {
  sound = sound-kvfs sound w;
  goes = mvfs_accepted (kvfs_at M s f) s _ _ _ _ (put_goes sound w);
  undone = mvfs-kvfs sound w;
}
