-- Checks of nodes, by those of their parts.
use Rattle.std.proofs.Common.{◌≡◌, ◌≢◌, ℕ, suc, ◌+◌, ◌-◌, ◌<◌, ◌≤◌, ◌^◌, min, List, ◌++◌, Some, Ok, Err, Result, refl, sym, ap, ap₂, subst, ◌∙◌, arith}
use Rattle.archive_shape_layout.specs.Bytes.{word_at}
use Rattle.archive_shape_layout.specs.Shape.{Shape}
use Rattle.archive_shape_layout.specs.Value.{count_values, append_values}
use Rattle.archive_shape_layout.specs.Value.Value.{group}
use Rattle.archive_shape_layout.specs.Content.{Names, Span, content_of, made, members, weave, first_values, other_values, entries, children, keys_offset, values_offset, links_offset, link_node_size, link_node_align, node_span}
use Rattle.archive_shape_layout.specs.Content.Part.{node}
use Rattle.archive_shape_layout.specs.Content.Label.{whole, woven}
use Rattle.archive_shape_layout.specs.Content.Content.{claimed}
use Rattle.archive_shape_layout.specs.Holds.{Visit, OpenShared}
use Rattle.archive_shape.specs.Questions.{FirstUnanswered, claim}
use Rattle.archive_shape.specs.PartFault.{PartFault, PartsFault}
use Rattle.archive_shape.specs.PartFault.PartFault.{fault_unanswered}
use Rattle.archive_shape.specs.Kept.{Kept, Records, range_of, popped, Advances}
use Rattle.archive_shape.specs.Checks.{CheckedAll}
use Rattle.archive_shape.specs.Steps.{Narrower}
use Rattle.archive_shape.specs.declared.checking.context.PushedRange.{PushedRange}
use Rattle.archive_shape_layout.specs.declared.error.Error.{Error}
use Rattle.archive_shape_layout.specs.declared.error.Error.TheVariants.{OutOfMemory, NodeLength}
use Rattle.archive_forms_values.proofs.Claimed.{pushed_records}
use Rattle.archive_btree_maps.specs.CheckingNodes.{BeginsNode}
use Rattle.archive_btree_maps.specs.Counts.{CountedAll, Counts}
use Rattle.archive_forms_values.proofs.Claiming.{pushes_of, fault_inside, accepted_inside}
use Rattle.archive_btree_maps.proofs.NodeContents.{leaf_is, inner_is, claim_unanswered, leaf_answered, length_unanswered, inner_answered}
use Rattle.archive_btree_maps.proofs.Joined.{first_list, joined, second_list, joined_records}
use Rattle.archive_btree_maps.proofs.Woven.{count_inner, entries_held, children_held}
use Rattle.archive_btree_maps.proofs.Counting.{count_unanswered}
use Rattle.archive_forms_values.specs.Claims.{IsClaimed}

-- ---- narrower ranges

pub narrower_inside : {k l : Kept} {s : Span} {r : PushedRange} (n : ℕ) → IsClaimed k s r l → (inner : Kept) → Narrower l inner n → Narrower k inner n
narrower_inside {k} {l} {s} {r} n h inner i =
    let push = pushes_of h in
    let start = ap (λ (x : Kept). x.start) push.narrowed in
    let end = ap (λ (x : Kept). x.end) push.narrowed in
    let within = h.answered.0 in
    record { begins = omega (arith, i.begins); ends = omega (arith, i.ends, within.ends); ordered = i.ordered }

pub narrower_after : {k l : Kept} (n : ℕ) → Advances k l → (inner : Kept) → Narrower l inner n → Narrower k inner n
narrower_after {k} {l} n h inner i =
    record { begins = omega (arith, h.begins, i.begins); ends = omega (arith, i.ends, ap (λ (x : Kept). x.end) h.frame); ordered = i.ordered }

pub realigned : {k l : Kept} {r : PushedRange} {pos n a b : ℕ} → a ≡ b → IsClaimed k (record { start = pos; size = n; align = a }) r l → IsClaimed k (record { start = pos; size = n; align = b }) r l
realigned {k} {l} {r} {pos} {n} e h = subst (λ x. IsClaimed k (record { start = pos; size = n; align = x }) r l) e h

module _ (names : Names) (bytes : List ℕ) (level most : ℕ) (k v : Shape) (pos : ℕ) (low : level ≤ 32) (old : Kept) where
  -- ---- a leaf

  module _ (begins : BeginsNode (range_of old) bytes most k v pos 0) where
    pub leaf_unclaimed :
        (new : Kept) (r : Result ℕ Error) (e : Error) (align : ℕ) → r ≡ Err e → align ≡ link_node_align k v
        → (e ≢ OutOfMemory → FirstUnanswered (range_of old) e (claim (record { start = pos; size = link_node_size 1 most k v; align = align })))
        → Counts names bytes (node level most k v pos) old r new
    leaf_unclaimed new r e align is aligned f =
        count_unanswered names bytes (node level most k v pos) old new r e is
        (λ other. claim_unanswered names bytes level most k v pos (range_of old) low 0 begins (omega arith) e
        (subst (λ a. FirstUnanswered (range_of old) e (claim (record { start = pos; size = link_node_size 1 most k v; align = a }))) aligned (f other)))

    module _ {l : Kept} {r : PushedRange} (h : IsClaimed old (node_span 1 most k v pos) r l) (len : ℕ) (says : word_at bytes (pos + links_offset most k v) ≡ len) where
      pub leaf_too_long : (new : Kept) → most < len → Counts names bytes (node level most k v pos) old (Err (NodeLength len most)) new
      leaf_too_long new more inside before records =
          λ other. fault_unanswered (length_unanswered names bytes level most k v pos (range_of old) low begins h.answered len says more)

      module _ (less : len ≤ most) (kp vp : ℕ) (keys : kp ≡ pos + keys_offset k) (values : vp ≡ pos + values_offset most k v) where
        leaf_parts : content_of names bytes (node level most k v pos) ≡ claimed (node_span 1 most k v pos) whole (entries len k kp v vp)
        leaf_parts =
            leaf_is names bytes level most k v pos len begins.tag low says less
            ∙ ap₂ (λ x y. claimed (node_span 1 most k v pos) whole (entries len k x v y)) (sym keys) (sym values)

        pub leaf_refused :
            (new : Kept) (result : Result ℕ Error) (e : Error) → result ≡ Err e
            → ((inside : List OpenShared) (before : List Visit) → Records l.seen inside before → e ≢ OutOfMemory → PartsFault names bytes inside before (entries len k kp v vp) (range_of l) e)
            → Counts names bytes (node level most k v pos) old result new
        leaf_refused new result e is f inside before records =
            rw is (λ other. fault_inside names bytes (node level most k v pos) (node_span 1 most k v pos) whole (entries len k kp v vp) leaf_parts h inside before e
            (leaf_answered names bytes level most k v pos (range_of old) low begins h.answered len says less)
            (f inside before (pushed_records (pushes_of h) inside before records) other))

        pub leaf_counted :
            (m o : Kept) → len < 2 ^ 64
            → ((inside : List OpenShared) (before : List Visit) → Records l.seen inside before → CheckedAll names bytes inside before (entries len k kp v vp) l m)
            → Advances l m
            → o ≡ popped m r old.pushes
            → Counts names bytes (node level most k v pos) old (Ok len) o
        unfolding made
        leaf_counted m o small checks advances popped_is inside before records =
            let i = checks inside before (pushed_records (pushes_of h) inside before records) in
            let c = accepted_inside names bytes (node level most k v pos) (node_span 1 most k v pos) whole (entries len k kp v vp) leaf_parts h inside before m o i (group i.passes.values) tt refl advances popped_is in
            let items = entries_held names bytes k v len kp vp i.passes.accepts.all in
            let own = ap (λ x. count_values (members x)) c.1 in
            record { checked = c.0; count = omega (arith, own, items, small) }

  -- ---- an inner node

  module _ (begins : BeginsNode (range_of old) bytes most k v pos 1) where
    pub inner_unclaimed :
        (new : Kept) (r : Result ℕ Error) (e : Error) (align : ℕ) → r ≡ Err e → align ≡ link_node_align k v
        → (e ≢ OutOfMemory → FirstUnanswered (range_of old) e (claim (record { start = pos; size = link_node_size (most + 1) most k v; align = align })))
        → Counts names bytes (node level most k v pos) old r new
    inner_unclaimed new r e align is aligned f =
        count_unanswered names bytes (node level most k v pos) old new r e is
        (λ other. claim_unanswered names bytes level most k v pos (range_of old) low 1 begins (omega arith) e
        (subst (λ a. FirstUnanswered (range_of old) e (claim (record { start = pos; size = link_node_size (most + 1) most k v; align = a }))) aligned (f other)))

    module _ {l : Kept} {r : PushedRange} (h : IsClaimed old (node_span (most + 1) most k v pos) r l)
        (lp kp vp : ℕ) (links : lp ≡ pos + links_offset most k v) (keys : kp ≡ pos + keys_offset k) (values : vp ≡ pos + values_offset most k v) where
      inner_parts : content_of names bytes (node level most k v pos) ≡ claimed (node_span (most + 1) most k v pos) (woven (most + 1)) (children (most + 1) (level + 1) most k v lp ++ entries most k kp v vp)
      inner_parts =
          inner_is names bytes level most k v pos begins.tag low
          ∙ ap (λ z. claimed (node_span (most + 1) most k v pos) (woven (most + 1)) (children (most + 1) (level + 1) most k v z ++ entries most k (pos + keys_offset k) v (pos + values_offset most k v))) (sym links)
          ∙ ap₂ (λ x y. claimed (node_span (most + 1) most k v pos) (woven (most + 1)) (children (most + 1) (level + 1) most k v lp ++ entries most k x v y)) (sym keys) (sym values)

      inner_fault :
          (inside : List OpenShared) (before : List Visit) (e : Error)
          → PartsFault names bytes inside before (children (most + 1) (level + 1) most k v lp ++ entries most k kp v vp) (range_of l) e
          → PartFault names bytes inside before (node level most k v pos) (range_of old) e
      inner_fault inside before e f =
          fault_inside names bytes (node level most k v pos) (node_span (most + 1) most k v pos) (woven (most + 1)) (children (most + 1) (level + 1) most k v lp ++ entries most k kp v vp) inner_parts h inside before e
          (inner_answered names bytes level most k v pos (range_of old) low begins h.answered) f

      -- a child is refused
      pub children_refused :
          (new : Kept) (result : Result ℕ Error) (e : Error) → result ≡ Err e
          → ((inside : List OpenShared) (before : List Visit) → Records l.seen inside before → e ≢ OutOfMemory → PartsFault names bytes inside before (children (most + 1) (level + 1) most k v lp) (range_of l) e)
          → Counts names bytes (node level most k v pos) old result new
      children_refused new result e is f inside before records =
          rw is (λ other. inner_fault inside before e (first_list names bytes inside (entries most k kp v vp) (children (most + 1) (level + 1) most k v lp)
          (f inside before (pushed_records (pushes_of h) inside before records) other)))

      module _ (m : Kept) (total : ℕ) (counted : (inside : List OpenShared) (before : List Visit) → Records l.seen inside before → CountedAll names bytes inside before (children (most + 1) (level + 1) most k v lp) l m total) where
        -- an entry is refused
        pub entries_refused :
            (new : Kept) (result : Result ℕ Error) (e : Error) → result ≡ Err e
            → ((inside : List OpenShared) (before : List Visit) → Records m.seen inside before → e ≢ OutOfMemory → PartsFault names bytes inside before (entries most k kp v vp) (range_of m) e)
            → Counts names bytes (node level most k v pos) old result new
        entries_refused new result e is f inside before records =
            let i = (counted inside before (pushed_records (pushes_of h) inside before records)).checked in
            rw is (λ other. inner_fault inside before e (second_list names bytes inside (entries most k kp v vp) (children (most + 1) (level + 1) most k v lp) before i
            (f inside i.passes.after (joined_records names bytes inside (entries most k kp v vp) (children (most + 1) (level + 1) most k v lp) before i) other)))

        pub inner_counted :
            (n o : Kept) (sum : ℕ) → sum ≡ min (total + most) (2 ^ 64 - 1)
            → ((inside : List OpenShared) (before : List Visit) → Records m.seen inside before → CheckedAll names bytes inside before (entries most k kp v vp) m n)
            → Advances l n
            → o ≡ popped n r old.pushes
            → Counts names bytes (node level most k v pos) old (Ok sum) o
        unfolding made
        inner_counted n o sum adds checks advances popped_is inside before records =
            let c = counted inside before (pushed_records (pushes_of h) inside before records) in
            let i = c.checked in
            let es = entries most k kp v vp in
            let cs = children (most + 1) (level + 1) most k v lp in
            let j = checks inside i.passes.after (joined_records names bytes inside es cs before i) in
            let both = joined names bytes inside es cs before i n j in
            let us = i.passes.values in
            let ws = j.passes.values in
            let vs = append_values us ws in
            let made_is : made (woven (most + 1)) both.0.passes.values ≡ Some (group (weave (first_values (most + 1) vs) (other_values (most + 1) vs))) = ap (made (woven (most + 1))) both.1 in
            let d = accepted_inside names bytes (node level most k v pos) (node_span (most + 1) most k v pos) (woven (most + 1)) (cs ++ es) inner_parts h inside before n o both.0 (group (weave (first_values (most + 1) vs) (other_values (most + 1) vs))) tt made_is advances popped_is in
            let below = children_held names bytes k v (most + 1) (level + 1) most lp i.passes.accepts.all in
            let own = entries_held names bytes k v most kp vp j.passes.accepts.all in
            let more : most + 1 ≡ suc (count_values ws) = omega (arith, own) in
            let items = count_inner (most + 1) us ws below more in
            let value = ap (λ x. count_values (members x)) d.1 in
            record { checked = d.0; count = omega (arith, value, items, own, c.count, adds) }
