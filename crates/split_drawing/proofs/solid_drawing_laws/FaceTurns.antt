-- The next of some faces as the code opens it.
use Rattle.split_drawing.proofs.Prelude.{◌≡◌, ◌≤◌, ◌+◌, List, ◌∷◌, ◌++◌, length, map, sym, ap, ◌∙◌, [], subst, arith, take, drop, length-drop, take-map, drop-map, Plane, Model, Op, drawn_between, next_drawn, faces_drawn, face_ops, ops_from, Pair, PairedFace, Progress, codes, how_many_pairs, paired, drawing_of, put_aside, CanDrawFace, CanDrawFaces}
use Rattle.split_drawing.proofs.solid_drawing_laws.Faces.{aside, ops_aside, opened}

-- what a slice has past its end
abbrev pub no_pairs : PairedFace
no_pairs = record { face = 0; pairs = 0 }

-- the first face takes its pairs, and leaves the others'
module _ (rest : List PairedFace) (later : List Pair) (enough : how_many_pairs rest ≤ length later) (q : PairedFace) (others : List PairedFace) (parts : rest ≡ q ∷ others) where
  many : q.pairs + how_many_pairs others ≤ length later
  many = omega (arith, enough, ap how_many_pairs parts)

  pub enough_here : q.pairs ≤ length later
  enough_here = omega (arith, many)

  pub enough_later : (more : List Pair) → more ≡ drop q.pairs later → how_many_pairs others ≤ length more
  enough_later more are = omega (arith, many, ap (λ (qs : List Pair). length qs) are, length-drop q.pairs later)

module _ (p : Plane) (c : Progress) (N : Model) (rest : List PairedFace) (later : List Pair) (w : CanDrawFaces (paired rest (map codes later)) (drawing_of c N []))
    (q : PairedFace) (others : List PairedFace) (parts : rest ≡ q ∷ others) (ps more : List Pair) (mine : ps ≡ take q.pairs later) (are : more ≡ drop q.pairs later) where
  opened_rest : paired rest (map codes later) ≡ record { face = q.face; pairs = map codes ps } ∷ paired others (map codes more)
  opened_rest = ap (λ (fs : List PairedFace). paired fs (map codes later)) parts
      ∙ (λ i. record { face = q.face; pairs = (take-map codes q.pairs later ∙ ap (map codes) (sym mine)) i } ∷ paired others ((drop-map codes q.pairs later ∙ ap (map codes) (sym are)) i))

  turn : CanDrawFace p q.face (map codes ps) (drawing_of c N []) × CanDrawFaces (paired others (map codes more)) (put_aside (drawn_between p q.face (map codes ps) (drawing_of c N [])))
  turn = opened p (drawing_of c N []) (record { face = q.face; pairs = map codes ps }) (paired others (map codes more)) (subst (λ fs. CanDrawFaces fs (drawing_of c N [])) opened_rest w)

  pub can_draw : CanDrawFace p q.face (map codes ps) (drawing_of c N [])
  can_draw = turn.0

  module _ (t : Progress) (K : Model) (is : drawing_of t K [] ≡ put_aside (drawn_between p q.face (map codes ps) (drawing_of c N []))) where
    pub can_go_on : CanDrawFaces (paired others (map codes more)) (drawing_of t K [])
    can_go_on = subst (CanDrawFaces (paired others (map codes more))) (sym is) turn.1

    pub made_on : put_aside (faces_drawn p (drawing_of t K []) (paired others (map codes more))) ≡ put_aside (faces_drawn p (drawing_of c N []) (paired rest (map codes later)))
    unfolding next_drawn
    made_on = grind (arith, aside, opened_rest)

    -- its operators, and then those of the others
    pub ops_on : face_ops p q.face (map codes ps) (drawing_of c N []) ++ ops_from p (drawing_of t K []) (paired others (map codes more)) ≡ ops_from p (drawing_of c N []) (paired rest (map codes later))
    unfolding next_drawn
    ops_on =
        ap (λ (xs : List Op). face_ops p q.face (map codes ps) (drawing_of c N []) ++ xs)
        (ap (λ d. ops_from p d (paired others (map codes more))) is ∙ ops_aside p (drawn_between p q.face (map codes ps) (drawing_of c N [])) (paired others (map codes more)))
        ∙ ap (ops_from p (drawing_of c N [])) (sym opened_rest)
