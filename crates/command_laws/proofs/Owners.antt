-- The solid of each face, loop, edge and vertex.
use Rattle.command_laws.proofs.Prelude.{◌≡◌, ◌≢◌, ℕ, Bool, false, nat_eq, ◌||◌, [], is_some, refl, sym, ap, subst, ◌∙◌, arith, inl, inr, nat_tests, IsIn, edge_of, plus, Model, LoopContent, LoopRow, lone, cycle, items_of, content, face_of, loop_of, solid_of, tail, Sound, Has, HasHalf, face_at, lists, tick_same, IsIn-map, IsIn_head, content_row, item_there, item_loop, lone_there, loop_there, cycle_there, same_solid, same_face, same_content, first_passes, listed_passes, IsIn-from_listed, listed-from_in, loop_row, one_solid_round, same_tail, vertices_on, eqb_tells}
use Rattle.euler_operators.specs.Table as table
use Rattle.command_laws.proofs.OnFaces.{vertex_cases, vertex_there}

-- whether a solid is solid s
abbrev pub is_of : ℕ → ℕ → Bool
is_of s u = nat_eq u s

-- which is what can't be another
pub is_it : (s u : ℕ) → (is_of s u ≡ false → ⊥) → u ≡ s
is_it s u never = elim (eqb_tells u s) [ inl e ↦ e.1 | inr e ↦ absurd (never e.0) ]

-- ---- of one solid or of another

abbrev pub is_either : ℕ → ℕ → ℕ → Bool
is_either s t u = is_of s u || is_of t u

pub neither : (s t u : ℕ) → is_either s t u ≡ false → (u ≢ s) × (u ≢ t)
neither s t u e = ((λ p. grind (arith, nat_tests)), (λ p. grind (arith, nat_tests)))

pub not_either : (s t u : ℕ) → u ≢ s → u ≢ t → is_either s t u ≡ false
not_either s t u a b = grind (arith, nat_tests)

-- ---- the solid of each thing

abbrev pub solid_of_loop : Model → ℕ → ℕ
solid_of_loop M l = solid_of M (face_of M l)

abbrev pub solid_of_half : Model → ℕ → ℕ
solid_of_half M h = solid_of M (face_at M h)

abbrev pub solid_of_edge : Model → ℕ → ℕ
solid_of_edge M e = solid_of_half M (plus e)

-- vertex v is on loop l
abbrev pub IsOn : Model → ℕ → ℕ → Type 0
IsOn M v l = IsIn v (vertices_on M (content M l))

-- the least loop that a vertex is on, and its solid
unfoldable pub home : Model → ℕ → ℕ
home M v = table.first_where (λ _ row. lists (vertices_on M row.content) v) M.loops

abbrev pub solid_of_vertex : Model → ℕ → ℕ
solid_of_vertex M v = solid_of_loop M (home M v)

-- vertex v is on a loop of solid s
pub record OnSolid (M : Model) (s v : ℕ) : Type 0 where
  pub loop : ℕ
  pub there : Has M.loops loop
  pub solid : solid_of_loop M loop ≡ s
  pub on : IsOn M v loop

module _ (M : Model) (sound : Sound M) where
  -- two loops that a vertex is on are of one solid
  one_solid : (l k v : ℕ) → IsOn M v l → IsOn M v k → solid_of_loop M l ≡ solid_of_loop M k
  one_solid l k v i j = elim (vertex_cases M l v i) [
    | inl p ↦ elim (vertex_cases M k v j) [
      | inl q ↦ ap (solid_of_loop M) (sound.one_lone l k v p q)
      | inr g ↦ absurd (sound.lone_is_no_tail l g.0 (item_there M sound k g.0 g.1) (p ∙ ap lone (sym g.2)))
    ]
    | inr h ↦ elim (vertex_cases M k v j) [
      | inl q ↦ absurd (sound.lone_is_no_tail k h.0 (item_there M sound l h.0 h.1) (q ∙ ap lone (sym h.2)))
      | inr g ↦ ap (solid_of_loop M) (sym (item_loop M sound l h.0 h.1)) ∙ one_solid_round M sound g.0 h.0 (item_there M sound k g.0 g.1) (item_there M sound l h.0 h.1) (g.2 ∙ sym h.2) ∙ ap (solid_of_loop M) (item_loop M sound k g.0 g.1)
    ]
  ]

  pub half_is_on : (h : ℕ) → HasHalf M h → IsOn M (tail M h) (loop_of M h)
  half_is_on h there = tail_is_on (content M (loop_of M h)) (cycle_there M sound h there) where
    tail_is_on : (c : LoopContent) → IsIn h (items_of c) → IsIn (tail M h) (vertices_on M c)
    tail_is_on (lone w) i = absurd (omega arith)
    tail_is_on (cycle hs) i = IsIn-map (tail M) h hs i

  -- each vertex is on a loop
  on_some_loop : (v : ℕ) → Has M.vertices v → (l : ℕ) × Has M.loops l × IsOn M v l
  on_some_loop v there = elim (sound.lone_or_tail v there) [
    | inl w ↦ (w.0, lone_there M w.0 v w.1, subst (λ c. IsIn v (vertices_on M c)) (sym w.1) (omega (arith, tick_same v)))
    | inr w ↦ (loop_of M w.half, loop_there M sound w.half w.there, subst (λ k. IsOn M k (loop_of M w.half)) w.starts (half_is_on w.half w.there))
  ]

  -- the first of these loops
  home_on : (v : ℕ) → Has M.vertices v → Has M.loops (home M v) × IsOn M v (home M v)
  unfolding home
  home_on v there =
      let p : ℕ → LoopRow → Bool = λ _ row. lists (vertices_on M row.content) v in
      let w = on_some_loop v there in
      let f = first_passes p M.loops w.0 (record { face = face_of M w.0; content = content M w.0 }) (loop_row M w.0 w.1) (listed-from_in v (vertices_on M (content M w.0)) w.2) in
      let r = listed_passes p M.loops (home M v) f.0 in
      (ap is_some r.1, subst (λ c. IsIn v (vertices_on M c)) (sym (content_row M (home M v) r.0 r.1)) (IsIn-from_listed v (vertices_on M r.0.content) r.2))

  -- so a vertex is of the solid of each loop that it is on
  pub owner_is : (s v : ℕ) → OnSolid M s v → solid_of_vertex M v ≡ s
  owner_is s v w = let h = home_on v (vertex_there M sound w.loop v w.on) in one_solid (home M v) w.loop v h.1 w.on ∙ w.solid

  pub has_owner : (v : ℕ) → Has M.vertices v → OnSolid M (solid_of_vertex M v) v
  has_owner v there = let h = home_on v there in record { loop = home M v; there = h.0; solid = refl; on = h.1 }

-- ---- two models that agree but for some solids

-- M and N agree but for the solids of which a holds in M, and b in N
pub record Agree (M N : Model) (a b : ℕ → Bool) : Type 0 where
  pub before : Sound M
  pub after : Sound N
  pub faces : (k : ℕ) → Has M.faces k → a (solid_of M k) ≡ false → (table.get N.faces k ≡ table.get M.faces k) × (b (solid_of M k) ≡ false)
  pub faces_back : (k : ℕ) → Has N.faces k → b (solid_of N k) ≡ false → (table.get N.faces k ≡ table.get M.faces k) × (a (solid_of N k) ≡ false)
  pub loops : (l : ℕ) → Has M.loops l → a (solid_of_loop M l) ≡ false → table.get N.loops l ≡ table.get M.loops l
  pub loops_back : (l : ℕ) → Has N.loops l → b (solid_of_loop N l) ≡ false → table.get N.loops l ≡ table.get M.loops l
  pub edges : (h : ℕ) → HasHalf M h → a (solid_of_half M h) ≡ false → table.get N.edges (edge_of h) ≡ table.get M.edges (edge_of h)

module _ (M N : Model) (a b : ℕ → Bool) (w : Agree M N a b) where
  -- a face, a loop and a half-edge of another solid stay, and are of another solid
  face_kept : (k : ℕ) → Has M.faces k → a (solid_of M k) ≡ false → Has N.faces k × (b (solid_of N k) ≡ false)
  face_kept k there out = let r = w.faces k there out in (ap is_some r.0 ∙ there, ap b (same_solid M N k r.0) ∙ r.1)

  loop_kept : (l : ℕ) → Has M.loops l → a (solid_of_loop M l) ≡ false → Has N.loops l × (b (solid_of_loop N l) ≡ false) × (content N l ≡ content M l)
  loop_kept l there out =
      let row = w.loops l there out in
      (ap is_some row ∙ there, ap (λ k. b (solid_of N k)) (same_face M N l row) ∙ (face_kept (face_of M l) (w.before.loops_of_faces l there) out).1, same_content M N l row)

  pub half_kept : (h : ℕ) → HasHalf M h → a (solid_of_half M h) ≡ false → HasHalf N h × (b (solid_of_half N h) ≡ false) × (loop_of N h ≡ loop_of M h) × (tail N h ≡ tail M h)
  half_kept h there out =
      let one = loop_kept (loop_of M h) (loop_there M w.before h there) out in let two = w.after.one_loop h (loop_of M h) in
      grind (arith, one, loop_there M w.before h there, w.before, w.edges h there out, two, w.before.stands h there, there, same_tail M N h)

  -- so the models agree the other way round too
  pub turned : Agree N M b a
  turned =
      let one = loop_there N w.after in let two = same_content M N in let three = same_solid M N in let four = same_face M N in
      let five = w.after.loops_of_faces in let six = w.before.only_edges in
      grind (arith, w.after, w.before, w.faces_back, w.faces, w.loops_back, w.loops, one, five, two, w.after.stands, w.edges, six, w.before.one_loop, four, three)

module _ (M N : Model) (a b : ℕ → Bool) (w : Agree M N a b) where
  on_kept : (v l : ℕ) → Has M.loops l → a (solid_of_loop M l) ≡ false → IsOn M v l → IsOn N v l
  on_kept v l there out on = elim (vertex_cases M l v on) [
    | inl is ↦ subst (λ c. IsIn v (vertices_on N c)) (sym ((loop_kept M N a b w l there out).2 ∙ is)) (IsIn_head v [])
    | inr h ↦
        let known = item_there M w.before l h.0 h.1 in
        grind (arith, item_loop M w.before l h.0 h.1, w.before, half_kept M N a b w h.0 known, known, half_is_on N w.after h.0, w.after)
  ]

  pub vertex_kept : (v : ℕ) → Has M.vertices v → a (solid_of_vertex M v) ≡ false → Has N.vertices v × (b (solid_of_vertex N v) ≡ false)
  vertex_kept v there out =
      let o = has_owner M w.before v there in
      let l = loop_kept M N a b w o.loop o.there (ap a o.solid ∙ out) in
      let on = on_kept v o.loop o.there (ap a o.solid ∙ out) o.on in
      (vertex_there N w.after o.loop v on, ap b (owner_is N w.after (solid_of_loop N o.loop) v (record { loop = o.loop; there = l.0; solid = refl; on = on })) ∙ l.1)

-- ---- one change after another

pub agree_none : (M : Model) (a : ℕ → Bool) → Sound M → Agree M M a a
agree_none M a sound = grind (arith)

pub agree_on : (M N P : Model) (a b c : ℕ → Bool) → Agree M N a b → Agree N P b c → Agree M P a c
agree_on M N P a b c v w = record {
  before = v.before;
  after = w.after;
  faces = grind (arith, v.faces, same_solid M N, w.faces);
  faces_back = grind (arith, w.faces_back, same_solid N P, v.faces_back);
  loops = λ l there out. let x = loop_kept M N a b v l there out in w.loops l x.0 x.1 ∙ v.loops l there out;
  loops_back = λ l there out. let y = loop_kept P N c b (turned N P b c w) l there out in w.loops_back l there out ∙ v.loops_back l y.0 y.1;
  edges = λ h there out. let x = half_kept M N a b v h there out in w.edges h x.0 x.1 ∙ v.edges h there out;
}
