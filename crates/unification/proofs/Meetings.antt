-- Two places made one, and what their forms ask of their parts.
use Rattle.std.proofs.Common.{◌≡◌, ◌≢◌, ℕ, ◌+◌, ◌<◌, ◌≤◌, Bool, true, false, cond, List, [], ◌∷◌, ◌++◌, ◌↔◌, inl, inr, length, get_or, set, None, refl, sym, ap, ◌∙◌, subst, arith, get_or-set_other, length-set, length-append}
use Rattle.std.proofs.lemmas.Bool.{cases_eq}
use Rattle.std.specs.Prelude.{bytes_eq}
use Rattle.std.specs.Cmp.Lexicographic.{same_text}
use Rattle.std.proofs.lemmas.Cmp.{nat_list_eq_equiv}
use Rattle.formula_core.specs.declared.ty.Ty.{Ty}
use Rattle.formula_core.specs.declared.ty.Ty.TheVariants as ty
use Rattle.unification.specs.declared.graph.Node.{Node}
use Rattle.unification.specs.declared.graph.Node.TheVariants.{Free, Int, Bool as BoolN, Truth, Given, Pow, Pair, Same}
use Rattle.unification.specs.declared.merging.Meeting.{Meeting}
use Rattle.unification.specs.declared.merging.Meeting.TheVariants as meeting
use Rattle.unification.specs.Terms.{integers, booleans, predicates, carrier, variable, powerset, product}
use Rattle.unification.specs.PrivateGraph.{node_at, form_of, link_of, is_free, Holds, FitsInGraph, IsGraph, node_weight, unlinked, meeting_of, AllSame, AreInside, AddsPairs, Joins}
use Rattle.unification.proofs.Terms.{same_pow, same_left, same_right, same_name, open_variant, same_variants}
use Rattle.unification.proofs.Forms.{Says, set_all, of_other, of_own, graph_set, unlinked-set, read}

-- what two forms ask of their parts
abbrev pub MeetingHolds : (ℕ → Ty) → Meeting → Type 0
MeetingHolds u meeting.Agree = Unit {0}
MeetingHolds u meeting.Never = ⊥
MeetingHolds u (meeting.One a b) = u a ≡ u b
MeetingHolds u (meeting.Two a b c d) = (u a ≡ u b) × (u c ≡ u d)

carriers_meet : (u : ℕ → Ty) (low high : ℕ) (a b : List ℕ) (same : Bool) → bytes_eq a b ≡ same → u low ≡ u high → u low ≡ ty.Given a → (u high ≡ ty.Given b) ↔ MeetingHolds u (cond same meeting.Agree meeting.Never)
carriers_meet u low high a b true q e s = (λ _. tt, λ _. sym e ∙ s ∙ ap ty.Given (same_text a b (sym q)))
carriers_meet u low high a b false q e s = (λ p. let r = sym q ∙ ap (bytes_eq a) (sym (same_name a b (sym s ∙ e ∙ p))) ∙ nat_list_eq_equiv.refl a in cc, λ w. absurd w)

-- a form and another one say the same exactly where their parts are the same
pub meets : (u : ℕ → Ty) (low high : ℕ) (x y : Node) → link_of x ≡ None → link_of y ≡ None → is_free x ≡ false → u low ≡ u high → Says u low x → Says u high y ↔ MeetingHolds u (meeting_of x y)
meets u low high Free y lx ly fx e s = cc
meets u low high (Same a) y lx ly fx e s = cc
meets u low high Int (Same b) lx ly fx e s = cc
meets u low high BoolN (Same b) lx ly fx e s = cc
meets u low high Truth (Same b) lx ly fx e s = cc
meets u low high (Given a) (Same b) lx ly fx e s = cc
meets u low high (Pow a) (Same b) lx ly fx e s = cc
meets u low high (Pair a c) (Same b) lx ly fx e s = cc
meets u low high Int Free lx ly fx e s = (λ _. tt, λ _. refl)
meets u low high BoolN Free lx ly fx e s = (λ _. tt, λ _. refl)
meets u low high Truth Free lx ly fx e s = (λ _. tt, λ _. refl)
meets u low high (Given a) Free lx ly fx e s = (λ _. tt, λ _. refl)
meets u low high (Pow a) Free lx ly fx e s = (λ _. tt, λ _. refl)
meets u low high (Pair a b) Free lx ly fx e s = (λ _. tt, λ _. refl)
meets u low high Int Int lx ly fx e s = (λ _. tt, λ _. sym e ∙ s)
meets u low high BoolN BoolN lx ly fx e s = (λ _. tt, λ _. sym e ∙ s)
meets u low high Truth Truth lx ly fx e s = (λ _. tt, λ _. sym e ∙ s)
meets u low high (Given a) (Given b) lx ly fx e s = carriers_meet u low high a b _ refl e s
meets u low high (Pow a) (Pow b) lx ly fx e s = (λ p. same_pow (u a) (u b) (sym s ∙ e ∙ p), λ q. sym e ∙ s ∙ ap ty.Pow q)
meets u low high (Pair a b) (Pair c d) lx ly fx e s =
    (λ p. let t = sym s ∙ e ∙ p in (same_left (u a) (u b) (u c) (u d) t, same_right (u a) (u b) (u c) (u d) t), λ q. sym e ∙ s ∙ (λ i. ty.Pair (q.0 i) (q.1 i)))
meets u low high Int y lx ly fx e s = (λ p. let q : open_variant integers ≡ open_variant (form_of high y) = same_variants u integers (form_of high y) tt tt (sym s ∙ e ∙ p) in cc, λ w. absurd w)
meets u low high BoolN y lx ly fx e s = (λ p. let q : open_variant booleans ≡ open_variant (form_of high y) = same_variants u booleans (form_of high y) tt tt (sym s ∙ e ∙ p) in cc, λ w. absurd w)
meets u low high Truth y lx ly fx e s = (λ p. let q : open_variant predicates ≡ open_variant (form_of high y) = same_variants u predicates (form_of high y) tt tt (sym s ∙ e ∙ p) in cc, λ w. absurd w)
meets u low high (Given a) y lx ly fx e s = (λ p. let q : open_variant (carrier a) ≡ open_variant (form_of high y) = same_variants u (carrier a) (form_of high y) tt tt (sym s ∙ e ∙ p) in cc, λ w. absurd w)
meets u low high (Pow a) y lx ly fx e s = (λ p. let q : open_variant (powerset (variable a)) ≡ open_variant (form_of high y) = same_variants u (powerset (variable a)) (form_of high y) tt tt (sym s ∙ e ∙ p) in cc, λ w. absurd w)
meets u low high (Pair a b) y lx ly fx e s = (λ p. let q : open_variant (product (variable a) (variable b)) ≡ open_variant (form_of high y) = same_variants u (product (variable a) (variable b)) (form_of high y) tt tt (sym s ∙ e ∙ p) in cc, λ w. absurd w)

pub AllSame-append : (u : ℕ → Ty) (a b : List (ℕ × ℕ)) → AllSame u (a ++ b) ↔ (AllSame u a × AllSame u b)
AllSame-append u [] b = (λ h. (tt, h), λ h. h.1)
AllSame-append u (p ∷ a) b =
    let rest = AllSame-append u a b in
    (λ h. ((h.0, (rest.0 h.1).0), (rest.0 h.1).1), λ h. (h.0.0, rest.1 (h.0.1, h.1)))

pub AreInside-append : (n : ℕ) (a b : List (ℕ × ℕ)) → AreInside n (a ++ b) ↔ (AreInside n a × AreInside n b)
AreInside-append n [] b = (λ h. (tt, h), λ h. h.1)
AreInside-append n (p ∷ a) b =
    let rest = AreInside-append n a b in
    (λ h. ((h.0, h.1, (rest.0 h.2).0), (rest.0 h.2).1), λ h. (h.0.0, h.0.1, rest.1 (h.0.2, h.1)))

adds_same : (u : ℕ → Ty) (m : Meeting) (old new : List (ℕ × ℕ)) → AddsPairs m old new → AllSame u new ↔ (AllSame u old × MeetingHolds u m)
adds_same u meeting.Agree old new h = (λ a. (subst (AllSame u) h a, tt), λ p. subst (AllSame u) (sym h) p.0)
adds_same u meeting.Never old new h = absurd h
adds_same u (meeting.One a b) old new h =
    let s = AllSame-append u old ((a, b) ∷ []) in
    (λ x. let y = s.0 (subst (AllSame u) h x) in (y.0, y.1.0), λ p. subst (AllSame u) (sym h) (s.1 (p.0, (p.1, tt))))
adds_same u (meeting.Two a b c d) old new h =
    let s = AllSame-append u old ((a, b) ∷ []) in
    let t = AllSame-append u (old ++ (a, b) ∷ []) ((c, d) ∷ []) in
    (λ x. let y = t.0 (subst (AllSame u) h x) in let z = s.0 y.0 in (z.0, (z.1.0, y.1.0)), λ p. subst (AllSame u) (sym h) (t.1 (s.1 (p.0, (p.1.0, tt)), (p.1.1, tt))))

abbrev MeetingInside : ℕ → Meeting → Type 0
MeetingInside n (meeting.One a b) = (a < n) × (b < n)
MeetingInside n (meeting.Two a b c d) = (a < n) × (b < n) × (c < n) × (d < n)
MeetingInside n _ = Unit {0}

carriers_inside : (n : ℕ) (same : Bool) → MeetingInside n (cond same meeting.Agree meeting.Never)
carriers_inside n true = tt
carriers_inside n false = tt

meeting_inside : (n i j : ℕ) (x y : Node) → FitsInGraph n i x → FitsInGraph n j y → MeetingInside n (meeting_of x y)
meeting_inside n i j x Free f g = tt
meeting_inside n i j Int Int f g = tt
meeting_inside n i j BoolN BoolN f g = tt
meeting_inside n i j Truth Truth f g = tt
meeting_inside n i j (Given a) (Given b) f g = carriers_inside n (bytes_eq a b)
meeting_inside n i j (Pow a) (Pow b) f g = (f, g)
meeting_inside n i j (Pair a b) (Pair c d) f g = (f.0, g.0, f.1, g.1)
meeting_inside n i j x y f g = tt

adds_inside : (n : ℕ) (m : Meeting) (old new : List (ℕ × ℕ)) → AddsPairs m old new → AreInside n old → MeetingInside n m → AreInside n new
adds_inside n meeting.Agree old new h o i = subst (AreInside n) (sym h) o
adds_inside n meeting.Never old new h o i = absurd h
adds_inside n (meeting.One a b) old new h o i = subst (AreInside n) (sym h) ((AreInside-append n old ((a, b) ∷ [])).1 (o, (i.0, i.1, tt)))
adds_inside n (meeting.Two a b c d) old new h o i =
    subst (AreInside n) (sym h) ((AreInside-append n (old ++ (a, b) ∷ []) ((c, d) ∷ [])).1 ((AreInside-append n old ((a, b) ∷ [])).1 (o, (i.0, i.1, tt)), (i.2, i.3, tt)))

adds_length : (m : Meeting) (old new : List (ℕ × ℕ)) → AddsPairs m old new → length new ≤ length old + 2
adds_length meeting.Agree old new h = let l = ap length h in omega arith
adds_length meeting.Never old new h = absurd h
adds_length (meeting.One a b) old new h = let l = ap length h in let k = length-append old ((a, b) ∷ []) in omega arith
adds_length (meeting.Two a b c d) old new h =
    let l = ap length h in
    let k = length-append old ((a, b) ∷ []) in
    let j = length-append (old ++ (a, b) ∷ []) ((c, d) ∷ []) in
    omega arith

freed : (n : Node) → is_free n ≡ true → n ≡ Free
freed Free e = refl
freed Int e = cc
freed BoolN e = cc
freed Truth e = cc
freed (Given name) e = cc
freed (Pow a) e = cc
freed (Pair a b) e = cc
freed (Same a) e = cc

says_moved : (u : ℕ → Ty) (i j : ℕ) (n : Node) → u j ≡ u i → Says u i n → Says u j n
says_moved u i j Free e s = refl
says_moved u i j n e s = e ∙ s

fits_moved : (m i j : ℕ) (n : Node) → link_of n ≡ None → FitsInGraph m i n → FitsInGraph m j n
fits_moved m i j (Same a) l f = cc
fits_moved m i j n l f = f

weight_last : (n : Node) → link_of n ≡ None → node_weight n ≡ 1
weight_last (Same a) l = cc
weight_last n l = refl

module _ (ns : List Node) (low high : ℕ) (graph : IsGraph ns) (below : low < high) (inside : high < length ns) (low_last : link_of (node_at ns low) ≡ None) (high_last : link_of (node_at ns high) ≡ None) where
  abbrev one : List Node
  one = set ns high (Same low)

  long_one : length one ≡ length ns
  long_one = length-set ns high (Same low)

  graph_one : IsGraph one
  graph_one = graph_set ns high (Same low) inside graph below

  kept_one : (u : ℕ → Ty) → Holds u ns → u low ≡ u high → Holds u one
  kept_one u h e = set_all (Says u) ns high (Same low) inside (λ k _. h k) (sym e)

  low_one : node_at one low ≡ node_at ns low
  low_one = get_or-set_other ns high low (Same low) Free (λ q. omega arith)

  added_one : (u : ℕ → Ty) → Holds u one → Says u high (node_at ns high) → Holds u ns
  added_one u h s k =
      elim (cases_eq k high) [
        | inl q ↦ subst (λ j. Says u j (node_at ns j)) (sym q) s
        | inr ne ↦ of_other (Says u) ns high (Same low) h k ne
      ]

  same_one : (u : ℕ → Ty) → Holds u one → u low ≡ u high
  same_one u h = sym (of_own (Says u) ns high (Same low) inside h)

  links_one : unlinked one + 1 ≡ unlinked ns
  links_one =
      let s = unlinked-set ns high (Same low) inside in
      let w = weight_last (node_at ns high) high_last in
      omega arith

  free_one : (k : ℕ) → node_at one k ≡ Free → node_at ns k ≡ Free
  free_one = set_all (λ k n. n ≡ Free → node_at ns k ≡ Free) ns high (Same low) inside (λ k _ q. q) (λ q. cc)

  -- the lower place had no form yet
  module _ (rest : List (ℕ × ℕ)) (pairs_inside : AreInside (length ns) rest) (free : is_free (node_at one low) ≡ true) where
    abbrev two : List Node
    two = set one low (node_at ns high)

    low_inside : low < length one
    low_inside = let l = long_one in omega arith

    free_low : node_at one low ≡ Free
    free_low = freed (node_at one low) free

    holds_one : (u : ℕ → Ty) → Holds u two → Holds u one
    holds_one u h k =
        elim (cases_eq k low) [
          | inl q ↦ subst (λ j. Says u j (node_at one j)) (sym q) (subst (Says u low) (sym free_low) refl)
          | inr ne ↦ of_other (Says u) one low (node_at ns high) h k ne
        ]

    pub joins_free : Joins low high ns rest two rest
    joins_free = record {
      graph = graph_set one low (node_at ns high) low_inside graph_one (subst (λ m. FitsInGraph m low (node_at ns high)) (sym long_one) (fits_moved (length ns) high low (node_at ns high) high_last (graph high)));
      long = length-set one low (node_at ns high) ∙ long_one;
      inside = subst (λ m. AreInside m rest) (sym (length-set one low (node_at ns high) ∙ long_one)) pairs_inside;
      kept = λ u h e a. (set_all (Says u) one low (node_at ns high) low_inside (λ k _. kept_one u h e k) (says_moved u high low (node_at ns high) e (h high)), a);
      added = λ u h a.
          let held = holds_one u h in
          let e = same_one u held in
          let own : Says u low (node_at ns high) = of_own (Says u) one low (node_at ns high) low_inside h in
          (added_one u held (says_moved u low high (node_at ns high) (sym e) own), e, a);
      smaller =
          let s = unlinked-set one low (node_at ns high) low_inside in
          let w = weight_last (node_at ns high) high_last in
          let v : node_weight (node_at one low) ≡ 1 = ap node_weight free_low in
          let l = links_one in
          omega arith;
      free = set_all (λ k n. n ≡ Free → node_at ns k ≡ Free) one low (node_at ns high) low_inside (λ k _. free_one k) (λ q. sym low_one ∙ free_low);
    }

  -- both places have a form
  module _ (formed : is_free (node_at one low) ≡ false) where
    met : (u : ℕ → Ty) → u low ≡ u high → Says u low (node_at one low) → Says u high (node_at ns high) ↔ MeetingHolds u (meeting_of (node_at one low) (node_at ns high))
    met u e s = meets u low high (node_at one low) (node_at ns high) (ap link_of low_one ∙ low_last) high_last formed e s

    pub joins_met : (rest pairs : List (ℕ × ℕ)) → AreInside (length ns) rest → AddsPairs (meeting_of (node_at one low) (node_at ns high)) rest pairs → Joins low high ns rest one pairs
    joins_met rest pairs pairs_inside adds =
        let m = meeting_of (node_at one low) (node_at ns high) in
        record {
          graph = graph_one;
          long = long_one;
          inside = adds_inside (length one) m rest pairs adds (subst (λ k. AreInside k rest) (sym long_one) pairs_inside)
              (meeting_inside (length one) low high (node_at one low) (node_at ns high) (graph_one low) (subst (λ k. FitsInGraph k high (node_at ns high)) (sym long_one) (graph high)));
          kept = λ u h e a.
              let held = kept_one u h e in
              (held, (adds_same u m rest pairs adds).1 (a, (met u e (held low)).0 (h high)));
          added = λ u h a.
              let p = (adds_same u m rest pairs adds).0 a in
              let e = same_one u h in
              (added_one u h ((met u e (h low)).1 p.1), e, p.0);
          smaller = let l = links_one in let k = adds_length m rest pairs adds in omega arith;
          free = free_one;
        }

    pub never_met : meeting_of (node_at one low) (node_at ns high) ≡ meeting.Never → (u : ℕ → Ty) → Holds u ns → u low ≢ u high
    never_met never u h e = subst (MeetingHolds u) never ((met u e (kept_one u h e low)).0 (h high))

-- the same for what the code has at hand
module _ (ns mid : List Node) (low high : ℕ) (form x : Node) (graph : IsGraph ns) (below : low < high) (inside : high < length ns) (low_last : link_of (node_at ns low) ≡ None) (high_last : link_of (node_at ns high) ≡ None) (taken : form ≡ node_at ns high) (rest_is : mid ≡ set ns high (Same low)) (known : x ≡ get_or mid low x) where
  known_is : x ≡ node_at (set ns high (Same low)) low
  known_is =
      let l = ap length rest_is in
      let k = length-set ns high (Same low) in
      read mid low x (omega arith) known ∙ ap (λ m. node_at m low) rest_is

  pub join_free : (new : List Node) (rest : List (ℕ × ℕ)) → AreInside (length ns) rest → is_free x ≡ true → new ≡ set mid low form → Joins low high ns rest new rest
  join_free new rest pairs_inside free is =
      let whole : new ≡ set (set ns high (Same low)) low (node_at ns high) = is ∙ (λ i. set (rest_is i) low (taken i)) in
      subst (λ m. Joins low high ns rest m rest) (sym whole) (joins_free ns low high graph below inside low_last high_last rest pairs_inside (sym (ap is_free known_is) ∙ free))

  same_meeting : (y : Node) → y ≡ get_or mid low y → meeting_of y form ≡ meeting_of (node_at (set ns high (Same low)) low) (node_at ns high)
  same_meeting y e =
      let l = ap length rest_is in
      let k = length-set ns high (Same low) in
      let is : y ≡ node_at (set ns high (Same low)) low = read mid low y (omega arith) e ∙ ap (λ m. node_at m low) rest_is in
      λ i. meeting_of (is i) (taken i)

  pub join_met : (y : Node) (m : Meeting) (rest pairs : List (ℕ × ℕ)) → AreInside (length ns) rest → is_free x ≡ false → y ≡ get_or mid low y → m ≡ meeting_of y form → AddsPairs m rest pairs → Joins low high ns rest mid pairs
  join_met y m rest pairs pairs_inside formed e is adds =
      subst (λ k. Joins low high ns rest k pairs) (sym rest_is)
      (joins_met ns low high graph below inside low_last high_last (sym (ap is_free known_is) ∙ formed) rest pairs pairs_inside (subst (λ k. AddsPairs k rest pairs) (is ∙ same_meeting y e) adds))

  pub join_never : (y : Node) (m : Meeting) → is_free x ≡ false → y ≡ get_or mid low y → m ≡ meeting_of y form → m ≡ meeting.Never → (u : ℕ → Ty) → Holds u ns → u low ≢ u high
  join_never y m formed e is never = never_met ns low high graph below inside low_last high_last (sym (ap is_free known_is) ∙ formed) (sym (same_meeting y e) ∙ sym is ∙ never)
