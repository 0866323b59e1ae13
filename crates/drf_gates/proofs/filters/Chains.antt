-- Chains of places.
use Rattle.std.proofs.Common.{Bool, true, false, ◌≡◌, ◌≢◌, ◌+◌, ◌<◌, ◌≤◌, ℕ, List, [], ◌∷◌, ◌++◌, length, get_or, set, take, sym, subst, ap, ◌∙◌, inl, inr, arith, length-append}
use Rattle.std.proofs.lemmas.List.{get_or_append_left, get_or-set_same, get_or-set_other, length-set, length-take, take_more, take_more_set}
use Rattle.std.proofs.Math.Seq.{get_or-append_seam}
use Rattle.std.proofs.lemmas.Bool.{cases_eq, cases_lt, false_from_ne_true}
use Rattle.drf_gates.specs.filters.Chains.{IsLast, IsChained}

-- what stands behind the end does not matter
pub last-more : (buckets : List ℕ) (x bucket end last : ℕ) → end ≤ length buckets → IsLast buckets bucket end last → IsLast (buckets ++ x ∷ []) bucket end last
last-more buckets x bucket end last small is = record {
  within = is.within;
  own = λ place at.
      let here : place < length buckets = omega (arith, at, is.within) in
      get_or_append_left buckets (x ∷ []) 0 place here ∙ is.own place at;
  none_after = λ place after before.
      let here : place < length buckets = omega (arith, before) in
      λ same. is.none_after place after before (sym (get_or_append_left buckets (x ∷ []) 0 place here) ∙ same);
}

-- the place that comes last is the last of its bucket
pub last-here : (buckets : List ℕ) (bucket : ℕ) → IsLast (buckets ++ bucket ∷ []) bucket (length buckets + 1) (length buckets + 1)
last-here buckets bucket = record {
  within = omega arith;
  own = λ place at.
      let here : length buckets ≡ place = omega (arith, at) in
      subst (λ (p : ℕ). get_or (buckets ++ bucket ∷ []) p 0 ≡ bucket) here (get_or-append_seam buckets bucket [] 0);
  none_after = λ place after before. absurd (omega (arith, after, before));
}

-- and of no other
pub last-other : (buckets : List ℕ) (x bucket last : ℕ) → x ≢ bucket → IsLast buckets bucket (length buckets) last → IsLast (buckets ++ x ∷ []) bucket (length buckets + 1) last
last-other buckets x bucket last other is =
    let more = last-more buckets x bucket (length buckets) last (omega arith) is in
    record {
      within = omega (arith, is.within);
      own = more.own;
      none_after = λ place after before. elim (cases_eq place (length buckets)) [
        | inl here ↦ subst (λ (p : ℕ). get_or (buckets ++ x ∷ []) p 0 ≢ bucket) (sym here)
            (λ same. other (sym (get_or-append_seam buckets x [] 0) ∙ same))
        | inr past ↦ more.none_after place after (omega (arith, past, before))
      ];
    }

-- one more place in a bucket: its chain begins there, and goes on where it began
pub chained-more : (buckets heads links : List ℕ) (bucket next : ℕ) → bucket < length heads → next ≡ length buckets + 1 → IsChained buckets heads links
    → IsChained (buckets ++ bucket ∷ []) (set heads bucket next) (links ++ get_or heads bucket 0 ∷ [])
chained-more buckets heads links bucket next below is_next is =
    let more : List ℕ = buckets ++ bucket ∷ [] in
    let longer : length more ≡ length buckets + 1 = length-append buckets (bucket ∷ []) in
    let same_length : length (set heads bucket next) ≡ length heads = length-set heads bucket next in
    record {
      number = length-append links (get_or heads bucket 0 ∷ []) ∙ ap (λ (n : ℕ). n + 1) is.number ∙ sym longer;
      head = λ other small. subst (λ (n : ℕ). IsLast more other n (get_or (set heads bucket next) other 0)) (sym longer)
          (elim (cases_eq other bucket) [
            | inl same ↦
                subst (λ (b : ℕ). IsLast more b (length buckets + 1) (get_or (set heads bucket next) b 0)) (sym same)
                (subst (λ (last : ℕ). IsLast more bucket (length buckets + 1) last) (sym is_next ∙ sym (get_or-set_same heads bucket next 0 below))
                (last-here buckets bucket))
            | inr apart ↦
                subst (λ (last : ℕ). IsLast more other (length buckets + 1) last) (sym (get_or-set_other heads bucket other next 0 apart))
                (last-other buckets bucket other (get_or heads other 0) (λ e. apart (sym e)) (is.head other (omega (arith, small, same_length))))
          ]);
      link = λ place small chained. elim (cases_eq place (length buckets)) [
        | inl here ↦
            let at_end : length links ≡ place = is.number ∙ sym here in
            let own : get_or more place 0 ≡ bucket = subst (λ (p : ℕ). get_or more p 0 ≡ bucket) (sym here) (get_or-append_seam buckets bucket [] 0) in
            let goes_on : get_or (links ++ get_or heads bucket 0 ∷ []) place 0 ≡ get_or heads bucket 0 =
            subst (λ (p : ℕ). get_or (links ++ get_or heads bucket 0 ∷ []) p 0 ≡ get_or heads bucket 0) at_end (get_or-append_seam links (get_or heads bucket 0) [] 0)
            in
            let was = last-more buckets bucket bucket (length buckets) (get_or heads bucket 0) (omega arith) (is.head bucket below) in
            subst (λ (q : ℕ × (ℕ × ℕ)). IsLast more q.0 q.1.0 q.1.1) (λ i. (sym own i, (sym here i, sym goes_on i))) was
        | inr past ↦
            let before : place < length buckets = omega (arith, small, past, longer) in
            let own = get_or_append_left buckets (bucket ∷ []) 0 place before in
            let goes_on = get_or_append_left links (get_or heads bucket 0 ∷ []) 0 place (omega (arith, before, is.number)) in
            subst (λ (q : ℕ × ℕ). IsLast more q.0 place q.1) (λ i. (sym own i, sym goes_on i))
            (last-more buckets bucket (get_or buckets place 0) place (get_or links place 0) (omega (arith, before))
            (is.link place before (omega (arith, chained, own, same_length))))
      ];
    }

-- one more place in no bucket
pub chained-free_slot : (buckets heads links : List ℕ) (bucket next : ℕ) → length heads ≤ bucket → IsChained buckets heads links
    → IsChained (buckets ++ bucket ∷ []) heads (links ++ next ∷ [])
chained-free_slot buckets heads links bucket next none is =
    let more : List ℕ = buckets ++ bucket ∷ [] in
    let longer : length more ≡ length buckets + 1 = length-append buckets (bucket ∷ []) in
    record {
      number = length-append links (next ∷ []) ∙ ap (λ (n : ℕ). n + 1) is.number ∙ sym longer;
      head = λ other small. subst (λ (n : ℕ). IsLast more other n (get_or heads other 0)) (sym longer)
          (last-other buckets bucket other (get_or heads other 0) (λ e. absurd (omega (arith, none, small, e))) (is.head other small));
      link = λ place small chained. elim (cases_eq place (length buckets)) [
        | inl here ↦
            let own : get_or more place 0 ≡ bucket = subst (λ (p : ℕ). get_or more p 0 ≡ bucket) (sym here) (get_or-append_seam buckets bucket [] 0) in
            absurd (omega (arith, none, chained, own))
        | inr past ↦
            let before : place < length buckets = omega (arith, small, past, longer) in
            let own = get_or_append_left buckets (bucket ∷ []) 0 place before in
            let goes_on = get_or_append_left links (next ∷ []) 0 place (omega (arith, before, is.number)) in
            subst (λ (q : ℕ × ℕ). IsLast more q.0 place q.1) (λ i. (sym own i, sym goes_on i))
            (last-more buckets bucket (get_or buckets place 0) place (get_or links place 0) (omega (arith, before))
            (is.link place before (omega (arith, chained, own))))
      ];
    }

-- ---- a place is taken out of its chain

-- the last of another place stays
last-keep : (buckets : List ℕ) (place none bucket end last : ℕ) → none ≢ bucket → last ≢ place + 1 → place < length buckets
    → IsLast buckets bucket end last → IsLast (set buckets place none) bucket end last
last-keep buckets place none bucket end last other apart small is = record {
  within = is.within;
  own = λ q at.
      get_or-set_other buckets place q none 0 (λ e. apart (at ∙ ap (λ (n : ℕ). n + 1) e)) ∙ is.own q at;
  none_after = λ q after before. elim (cases_eq q place) [
    | inl here ↦ λ same. other (sym (get_or-set_same buckets place none 0 small)
        ∙ subst (λ (p : ℕ). get_or (set buckets place none) p 0 ≡ bucket) here same)
    | inr past ↦ λ same. is.none_after q after before (sym (get_or-set_other buckets place q none 0 past) ∙ same)
  ];
}

-- where the place was the last, the one before it is
last-drop : (buckets : List ℕ) (place none bucket end last next : ℕ) → none ≢ bucket → last ≡ place + 1 → place < length buckets
    → IsLast buckets bucket end last → IsLast buckets bucket place next → IsLast (set buckets place none) bucket end next
last-drop buckets place none bucket end last next other here small is before = record {
  within = omega (arith, is.within, before.within, here);
  own = λ q at.
      get_or-set_other buckets place q none 0 (λ e. absurd (omega (arith, at, e, before.within))) ∙ before.own q at;
  none_after = λ q after below. elim (cases_eq q place) [
    | inl same_place ↦ λ same. other (sym (get_or-set_same buckets place none 0 small)
        ∙ subst (λ (p : ℕ). get_or (set buckets place none) p 0 ≡ bucket) same_place same)
    | inr past ↦ λ same.
        let was : get_or buckets q 0 ≡ bucket = sym (get_or-set_other buckets place q none 0 past) ∙ same in
        elim (cases_lt q place) [
          | inl early ↦ before.none_after q after early was
          | inr late ↦ is.none_after q (omega (arith, late, past, here)) below was
        ]
  ];
}

module _ (buckets heads links : List ℕ) (place bucket none : ℕ) where
  -- a chain that goes on at the place is the bucket's, and goes on so from nowhere else
  module _ (is : IsChained buckets heads links) (known : bucket < length heads) (small : place < length buckets)
      (own : get_or buckets place 0 ≡ bucket) (is_none : none ≡ length heads) where
    apart : (other : ℕ) → other < length heads → none ≢ other
    apart other below e = absurd (omega (arith, below, e, is_none))

    link-drop : (end last next : ℕ) → next ≡ get_or links place 0 → last ≡ place + 1
        → IsLast buckets bucket end last → IsLast (set buckets place none) bucket end next
    link-drop end last next is_next here was =
        last-drop buckets place none bucket end last next (apart bucket known) here small was
        (subst (λ (q : ℕ × ℕ). IsLast buckets q.0 place q.1) (λ i. (own i, sym is_next i)) (is.link place small (omega (arith, own, known))))

    other_head : (other : ℕ) → other < length heads → other ≢ bucket → IsLast (set buckets place none) other (length buckets) (get_or heads other 0)
    other_head other below differs =
        last-keep buckets place none other (length buckets) (get_or heads other 0) (apart other below)
        (λ e. differs (sym ((is.head other below).own place e) ∙ own)) small (is.head other below)

    -- another link of the chain does not lead to the place
    other_link : (p : ℕ) → p < length buckets → get_or buckets p 0 < length heads → get_or links p 0 ≢ place + 1
        → IsLast (set buckets place none) (get_or buckets p 0) p (get_or links p 0)
    other_link p below chained differs =
        last-keep buckets place none (get_or buckets p 0) p (get_or links p 0) (apart (get_or buckets p 0) chained) differs small (is.link p below chained)

    long : length (set buckets place none) ≡ length buckets
    long = length-set buckets place none

    -- the place was the bucket's last
    pub chained-drop_head : (next : ℕ) → next ≡ get_or links place 0 → get_or heads bucket 0 ≡ place + 1
        → IsChained (set buckets place none) (set heads bucket next) links
    chained-drop_head next is_next here = record {
      number = is.number ∙ sym long;
      head = λ other below. subst (λ (n : ℕ). IsLast (set buckets place none) other n (get_or (set heads bucket next) other 0)) (sym long)
          (elim (cases_eq other bucket) [
            | inl same ↦
                subst (λ (q : ℕ × ℕ). IsLast (set buckets place none) q.0 (length buckets) q.1)
                (λ i. (sym same i, sym (ap (λ (b : ℕ). get_or (set heads bucket next) b 0) same ∙ get_or-set_same heads bucket next 0 known) i))
                (link-drop (length buckets) (get_or heads bucket 0) next is_next here (is.head bucket known))
            | inr differs ↦
                subst (λ (last : ℕ). IsLast (set buckets place none) other (length buckets) last) (sym (get_or-set_other heads bucket other next 0 differs))
                (other_head other (omega (arith, below, length-set heads bucket next)) differs)
          ]);
      link = λ p below chained. elim (cases_eq p place) [
        | inl here ↦ absurd (omega (
          arith,
          chained,
          is_none,
          length-set heads bucket next,
          subst (λ (q : ℕ). get_or (set buckets place none) q 0 ≡ none) (sym here) (get_or-set_same buckets place none 0 small),
        ))
        | inr past ↦
            let kept : get_or (set buckets place none) p 0 ≡ get_or buckets p 0 = get_or-set_other buckets place p none 0 past in
            let before : p < length buckets = omega (arith, below, long) in
            let in_chain : get_or buckets p 0 < length heads = omega (arith, chained, kept, length-set heads bucket next) in
            subst (λ (b : ℕ). IsLast (set buckets place none) b p (get_or links p 0)) (sym kept)
            (other_link p before in_chain (λ e.
            let its : get_or buckets p 0 ≡ bucket = sym ((is.link p before in_chain).own place e) ∙ own in
            (is.head bucket known).none_after p (omega (arith, here, e, (is.link p before in_chain).within)) before its))
      ];
    }

    -- or another place of the chain goes on at it
    pub chained-drop_link : (from next : ℕ) → next ≡ get_or links place 0 → place < from → from < length buckets
        → get_or buckets from 0 ≡ bucket → get_or links from 0 ≡ place + 1
        → IsChained (set buckets place none) heads (set links from next)
    chained-drop_link from next is_next behind inside its here = record {
      number = length-set links from next ∙ is.number ∙ sym long;
      head = λ other below. subst (λ (n : ℕ). IsLast (set buckets place none) other n (get_or heads other 0)) (sym long)
          (elim (cases_eq other bucket) [
            | inl same ↦
                last-keep buckets place none other (length buckets) (get_or heads other 0) (apart other below)
                (λ e. (is.head other below).none_after from (omega (arith, e, behind)) inside (its ∙ sym same)) small (is.head other below)
            | inr differs ↦ other_head other below differs
          ]);
      link = λ p below chained. elim (cases_eq p place) [
        | inl taken ↦ absurd (omega (
          arith,
          chained,
          is_none,
          subst (λ (q : ℕ). get_or (set buckets place none) q 0 ≡ none) (sym taken) (get_or-set_same buckets place none 0 small),
        ))
        | inr past ↦
            let kept : get_or (set buckets place none) p 0 ≡ get_or buckets p 0 = get_or-set_other buckets place p none 0 past in
            let before : p < length buckets = omega (arith, below, long) in
            let in_chain : get_or buckets p 0 < length heads = omega (arith, chained, kept) in
            subst (λ (b : ℕ). IsLast (set buckets place none) b p (get_or (set links from next) p 0)) (sym kept)
            (elim (cases_eq p from) [
              | inl same ↦
                  let bucket_is : get_or buckets p 0 ≡ bucket = subst (λ (q : ℕ). get_or buckets q 0 ≡ bucket) (sym same) its in
                  let goes_on : get_or (set links from next) p 0 ≡ next =
                  ap (λ (q : ℕ). get_or (set links from next) q 0) same ∙ get_or-set_same links from next 0 (omega (arith, inside, is.number))
                  in
                  let was : get_or links p 0 ≡ place + 1 = ap (λ (q : ℕ). get_or links q 0) same ∙ here in
                  subst (λ (q : ℕ × ℕ). IsLast (set buckets place none) q.0 p q.1) (λ i. (sym bucket_is i, sym goes_on i))
                  (link-drop p (get_or links p 0) next is_next was
                  (subst (λ (b : ℕ). IsLast buckets b p (get_or links p 0)) bucket_is (is.link p before in_chain)))
              | inr differs ↦
                  subst (λ (last : ℕ). IsLast (set buckets place none) (get_or buckets p 0) p last) (sym (get_or-set_other links from p next 0 differs))
                  (other_link p before in_chain (λ e.
                  let its_too : get_or buckets p 0 ≡ bucket = sym ((is.link p before in_chain).own place e) ∙ own in
                  elim (cases_lt p from) [
                    | inl early ↦ (is.link from inside (omega (arith, its, known))).none_after p (omega (arith, here, e, (is.link p before in_chain).within)) early (its_too ∙ sym its)
                    | inr late ↦ (is.link p before in_chain).none_after from (omega (arith, e, behind)) (omega (arith, late, differs)) (its ∙ sym its_too)
                  ]))
            ])
      ];
    }

-- where a place in no bucket goes on does not matter
pub chained-any : (buckets heads links : List ℕ) (place next : ℕ) → length heads ≤ get_or buckets place 0 → IsChained buckets heads links
    → IsChained buckets heads (set links place next)
chained-any buckets heads links place next none is = record {
  number = length-set links place next ∙ is.number;
  head = is.head;
  link = λ p below chained. elim (cases_eq p place) [
    | inl here ↦ absurd (omega (arith, none, chained, ap (λ (q : ℕ). get_or buckets q 0) here))
    | inr apart ↦
        subst (λ (last : ℕ). IsLast buckets (get_or buckets p 0) p last) (sym (get_or-set_other links place p next 0 apart)) (is.link p below chained)
  ];
}

-- ---- chains up to a place

pub chained-next : (buckets heads links : List ℕ) (place bucket next head : ℕ) → place < length buckets → length links ≡ length buckets
    → get_or buckets place 0 ≡ bucket → bucket < length heads → next ≡ place + 1 → head ≡ get_or heads bucket 0
    → IsChained (take place buckets) heads (take place links)
    → IsChained (take (place + 1) buckets) (set heads bucket next) (take (place + 1) (set links place head))
chained-next buckets heads links place bucket next head small number own known is_next is_head is =
    let long : length (take place buckets) ≡ place = omega (arith, length-take place buckets, small) in
    let own_last : take place buckets ++ bucket ∷ [] ≡ take (place + 1) buckets =
    ap (λ (b : ℕ). take place buckets ++ b ∷ []) (sym own) ∙ sym (take_more buckets place 0 small)
    in
    let its_last : take place links ++ get_or heads bucket 0 ∷ [] ≡ take (place + 1) (set links place head) =
    ap (λ (h : ℕ). take place links ++ h ∷ []) (sym is_head) ∙ sym (take_more_set links place head (omega (arith, small, number)))
    in
    subst (λ (q : List ℕ × List ℕ). IsChained q.0 (set heads bucket next) q.1) (λ i. (own_last i, its_last i))
    (chained-more (take place buckets) heads (take place links) bucket next known (omega (arith, is_next, long)) is)

pub chained-next_free_slot : (buckets heads links : List ℕ) (place : ℕ) → place < length buckets → length links ≡ length buckets
    → length heads ≤ get_or buckets place 0 → IsChained (take place buckets) heads (take place links)
    → IsChained (take (place + 1) buckets) heads (take (place + 1) links)
chained-next_free_slot buckets heads links place small number none is =
    subst (λ (q : List ℕ × List ℕ). IsChained q.0 heads q.1)
    (λ i. (sym (take_more buckets place 0 small) i, sym (take_more links place 0 (omega (arith, small, number))) i))
    (chained-free_slot (take place buckets) heads (take place links) (get_or buckets place 0) (get_or links place 0) none is)

-- what lies behind the last place of a bucket does not pass a test that others of the bucket alone pass
pub passed-last : {X : Type 0} (test : X → Bool) (buckets : List ℕ) (xs : List X) (bucket end last : ℕ)
    → ((place : ℕ) (d : X) → place < length xs → test (get_or xs place d) ≡ true → get_or buckets place 0 ≡ bucket) → IsLast buckets bucket end last
    → ((place : ℕ) (d : X) → end ≤ place → place < length xs → test (get_or xs place d) ≡ false)
    → (place : ℕ) (d : X) → last ≤ place → place < length xs → test (get_or xs place d) ≡ false
passed-last test buckets xs bucket end last own is passed place d after below = elim (cases_lt place end) [
  | inl before ↦ false_from_ne_true (test (get_or xs place d)) (λ passes. is.none_after place after before (own place d below passes))
  | inr behind ↦ passed place d behind below
]

-- one more place is looked at
pub passed-more : {X : Type 0} (test : X → Bool) (xs : List X) (end place : ℕ) → end ≡ place + 1 → ((d : X) → test (get_or xs place d) ≡ false)
    → ((p : ℕ) (d : X) → end ≤ p → p < length xs → test (get_or xs p d) ≡ false)
    → (p : ℕ) (d : X) → place ≤ p → p < length xs → test (get_or xs p d) ≡ false
passed-more test xs end place is_end fails passed p d after below = elim (cases_eq p place) [
  | inl here ↦ ap (λ (q : ℕ). test (get_or xs q d)) here ∙ fails d
  | inr past ↦ passed p d (omega (arith, past, after, is_end)) below
]
