-- A solid with one face and one vertex, made and killed by the writers of an arena.
use Rattle.low_euler.proofs.Prelude.{◌≡◌, ℕ, true, [], ◌∷◌, Some, None, is_some, unwrap_or, sym, ap, subst, ◌∙◌, Point, Table, Model, LoopRow, lone, cycle, items_of, no_loop, outer, face_of, faces_of, content, first_false, lone_vertex, effect, mvfs, kvfs_at, head_or_zero, Mvfs, Kvfs, get-put_here, put-put, KvfsGoes, faces_one, kvfs_goes, Store, put_vertex, put_solid, put_face, put_loop, with_lone, only_item, take_solid, take_face, take_loop, take_vertex, IsReady, after, one_face}
use Rattle.euler_operators.specs.Table as table

module _ (s : Store) (n f l v : ℕ) (p : Point) where
  abbrev pub begun : Store
  begun = put_face (put_solid (put_vertex s v p) n) f n l

  pub was_begun : (a b c : Store) → a ≡ put_vertex s v p → b ≡ put_solid a n → c ≡ put_face b f n l → c ≡ begun
  was_begun a b c ea eb ec = ec ∙ ap (λ t. put_face t f n l) (eb ∙ ap (λ t. put_solid t n) ea)

  pub new_loop_there : table.has (put_loop begun l f).model.loops l ≡ true
  unfolding put_loop
  new_loop_there = ap is_some (get-put_here s.model.loops l (record { face = f; content = cycle [] }))

  pub new_loop_bare : items_of (content (put_loop begun l f).model l) ≡ []
  unfolding put_loop content
  new_loop_bare = ap (λ o. items_of (unwrap_or o no_loop).content) (get-put_here s.model.loops l (record { face = f; content = cycle [] }))

  -- the writers make what mvfs makes
  pub mvfs_made : with_lone (put_loop begun l f) l v ≡ after s (Mvfs n f l v p)
  unfolding put_loop face_of effect mvfs
  mvfs_made =
      let t : Table LoopRow = table.put s.model.loops l (record { face = f; content = cycle [] }) in
      let face : (unwrap_or (table.get t l) no_loop).face ≡ f = ap (λ o. (unwrap_or o no_loop).face) (get-put_here s.model.loops l (record { face = f; content = cycle [] })) in
      ap (λ (q : Table LoopRow). record s { model = record s.model { solids = table.put s.model.solids n tt; faces = table.put s.model.faces f (record { solid = n; outer = l }); loops = q; vertices = table.put s.model.vertices v p } })
      (ap (λ g. table.put t l (record { face = g; content = lone v })) face ∙ put-put s.model.loops l (record { face = f; content = cycle [] }) (record { face = f; content = lone v }))

-- ---- a solid that is killed

pub has_one_face : (M : Model) (n : ℕ) → first_false M (Kvfs n) ≡ None → is_some (only_item (faces_of M n)) ≡ true
has_one_face M n e = ap (λ fs. is_some (only_item fs)) (faces_one M n (head_or_zero (faces_of M n)) (kvfs_goes M n e))

module _ (s : Store) (n f : ℕ) (ready : IsReady s) (holds : first_false s.model (Kvfs n) ≡ None) (is : only_item (faces_of s.model n) ≡ Some f) where
  faces_are : faces_of s.model n ≡ f ∷ []
  faces_are = one_face (faces_of s.model n) f is

  pub goes : KvfsGoes s.model n f
  goes = subst (KvfsGoes s.model n) (ap head_or_zero faces_are) (kvfs_goes s.model n holds)

  pub outer_there : table.has s.model.loops (outer s.model f) ≡ true
  outer_there = (ready.sound.outers_there f goes.f_there).0

  pub vertex_there : table.has s.model.vertices (lone_vertex (content s.model (outer s.model f))) ≡ true
  vertex_there = ready.sound.lone_at_vertex (outer s.model f) (lone_vertex (content s.model (outer s.model f))) goes.is_bare

  -- the writers make what kvfs makes
  pub kvfs_made : take_solid (take_face (take_loop (take_vertex s (lone_vertex (content s.model (outer s.model f)))) (outer s.model f)) f) n ≡ after s (Kvfs n)
  unfolding effect kvfs_at
  kvfs_made = ap (λ q. record s { model = kvfs_at s.model n q }) (sym (ap head_or_zero faces_are))
