-- The ways that the calls that set fields of one node end: refused by questions 1 to 4, `mark` by 6
-- too, and done, with one part of the node's record stored. Assumes nothing.
use Rattle.std.specs.Prelude.{None, Option, Some}
use Rattle.std.specs.Prelude.{Err, Ok}
use mathlib.Core.Path.{◌≡◌, refl, sym, ap, ◌∙◌}
use mathlib.Core.Bool.{true, false}
use mathlib.Core.List.{List, [], ◌∷◌}
use Prim.Native.Nat.{ℕ, ◌<◌}
use native.Mathlib.Omega.{arith}
use lib.Dec.{ltb}
use borrow.Author.Tests.{lt-ltb}
use Rattle.model.specs.Node.{Node}
use Rattle.model.specs.Graph.{Graph, size, node_at}
use Rattle.model.specs.Setting.{with_flags, marked, may_mark, with_first_spec, restricted_at, with_record}
use Rattle.model.specs.Refusals.{refusal_number, Question, ask, refusal}
use Rattle.model.specs.Calls.{Outcome, decided, has_node_zero, reads_node, sets, mark, set_first_spec, set_restriction_depth}
use Rattle.model.specs.Arena.{decode, encode}
use Rattle.model.specs.ArenaCalls.{ValidNode, on_arena, Finishes, ask_arena}
use Rattle.model.specs.declared.Refusal.{Refusal}
use Rattle.model.specs.declared.Refusal.TheVariants.{Kind}
use Rattle.laws.proofs.BigEndianLaws.{Bytes}
use Rattle.laws.proofs.ArenaCallLaws.{refused-before, asked-on, on-arena-asks, finishes-refused, finishes-done}
use Rattle.arena.specs.Slot.{arc_in, flags_in, flags_stored, restriction_stored}
use Rattle.arena.proofs.ReadNodes.{sizes, node-zero, node-read, fields_read}
use Rattle.arena.proofs.RecordStores.{encode-flags, encode-restriction, encode-specs}
use Rattle.nodes.specs.Setting.{first_spec_stored}

-- ---- A call f of the graph that sets node n, with questions of its own

module _ (bs : List ℕ) (n : ℕ) (f : Graph → Outcome) (own : List Question) (new : Node → Node)
    (same : f (decode bs) ≡ sets n own new (decode bs)) where
  -- questions 1 to 4 and its own
  abbrev asked : List Question
  asked = ask_arena bs (has_node_zero (decode bs) ∷ ask 4 (ltb n (size (decode bs))) ∷ own)

  abbrev result : Graph
  result = with_record (decode bs) n (new (node_at (decode bs).nodes n))

  set-asks : on_arena f bs ≡ decided asked (decode bs) 0 result
  set-asks = on-arena-asks bs f (has_node_zero (decode bs) ∷ ask 4 (ltb n (size (decode bs))) ∷ own) 0 result same

  -- by questions 1 to 4
  set-refused-first : (r : Refusal) → refusal_number r ≡ refusal (ask_arena bs (reads_node (decode bs) n))
      → Finishes (on_arena f bs) bs (Err r) bs
  set-refused-first r e =
      rw set-asks
      (finishes-refused asked (decode bs) 0 result bs r
      (refused-before r (ask_arena bs (reads_node (decode bs) n)) own e))

  module _ (valid : ValidNode bs n) where
    own-left : refusal asked ≡ refusal own
    own-left =
        asked-on bs (has_node_zero (decode bs) ∷ ask 4 (ltb n (size (decode bs))) ∷ own) valid.opened
        ∙ rw (
          node-zero bs valid.opened (omega (arith, valid.below)),
          lt-ltb n (size (decode bs)) (omega (arith, valid.below, sizes bs valid.opened)),
        )

    set-refused : (r : Refusal) → refusal_number r ≡ refusal own → Finishes (on_arena f bs) bs (Err r) bs
    set-refused r e = rw set-asks (finishes-refused asked (decode bs) 0 result bs r (e ∙ sym own-left))

    set-done : (after : List ℕ) → refusal own ≡ 0 → after ≡ encode result bs → Finishes (on_arena f bs) bs (Ok tt) after
    set-done after e a = rw set-asks (finishes-done asked (decode bs) 0 result bs after (own-left ∙ e) a)

-- ---- The calls

module _ (bs : List ℕ) (n : ℕ) where
  abbrev old : Node
  old = node_at (decode bs).nodes n

  here : ValidNode bs n → n < size (decode bs)
  here valid = omega (arith, valid.below, sizes bs valid.opened)

  module _ (flags : ℕ) where
    abbrev mark_asks : List Question
    mark_asks = ask 6 (may_mark flags (node_at (decode bs).nodes n).arc) ∷ []

    pub mark-refused-first : (r : Refusal) → refusal_number r ≡ refusal (ask_arena bs (reads_node (decode bs) n))
        → Finishes (on_arena (mark n flags) bs) bs (Err r) bs
    unfolding mark
    mark-refused-first = set-refused-first bs n (mark n flags) mark_asks (marked flags) refl

    arc-read : ValidNode bs n → old.arc ≡ arc_in bs n
    arc-read valid = ap (λ (x : Node). x.arc) (node-read bs n valid) ∙ (fields_read bs n valid).arc

    flags-read : ValidNode bs n → old.flags ≡ flags_in bs n
    flags-read valid = ap (λ (x : Node). x.flags) (node-read bs n valid) ∙ (fields_read bs n valid).flags

    pub mark-refused : ValidNode bs n → may_mark flags (arc_in bs n) ≡ false
        → Finishes (on_arena (mark n flags) bs) bs (Err Kind) bs
    unfolding mark
    mark-refused valid e =
        set-refused bs n (mark n flags) mark_asks (marked flags) refl valid Kind
        (rw (ap (may_mark flags) (arc-read valid) ∙ e))

    pub mark-done : Bytes bs → ValidNode bs n → may_mark flags (arc_in bs n) ≡ true
        → (joined : ℕ) → joined ≡ with_flags flags (flags_in bs n) → (after : List ℕ) → after ≡ flags_stored n joined bs
        → Finishes (on_arena (mark n flags) bs) bs (Ok tt) after
    unfolding mark
    mark-done bytes valid may joined e after a =
        set-done bs n (mark n flags) mark_asks (marked flags) refl valid after
        (rw (ap (may_mark flags) (arc-read valid) ∙ may))
        (a ∙ ap (λ (k : ℕ). flags_stored n k bs) (e ∙ ap (with_flags flags) (sym (flags-read valid)))
        ∙ encode-flags bs bytes valid.opened n (here valid) (with_flags flags old.flags))

  module _ (first : Option ℕ) where
    pub first-spec-refused : (r : Refusal) → refusal_number r ≡ refusal (ask_arena bs (reads_node (decode bs) n))
        → Finishes (on_arena (set_first_spec n first) bs) bs (Err r) bs
    unfolding set_first_spec
    first-spec-refused = set-refused-first bs n (set_first_spec n first) [] (with_first_spec first) refl

    pub first-spec-done : Bytes bs → ValidNode bs n → (after : List ℕ) → after ≡ first_spec_stored n first bs
        → Finishes (on_arena (set_first_spec n first) bs) bs (Ok tt) after
    unfolding set_first_spec
    first-spec-done bytes valid after a =
        set-done bs n (set_first_spec n first) [] (with_first_spec first) refl valid after refl (a ∙ encoded first)
      where
        encoded : (o : Option ℕ) → first_spec_stored n o bs ≡ encode (with_record (decode bs) n (with_first_spec o old)) bs
        encoded None = encode-specs bs bytes valid.opened n (here valid) 0 0
        encoded (Some k) = encode-specs bs bytes valid.opened n (here valid) k 1

  module _ (depth : ℕ) where
    pub restriction-refused : (r : Refusal) → refusal_number r ≡ refusal (ask_arena bs (reads_node (decode bs) n))
        → Finishes (on_arena (set_restriction_depth n depth) bs) bs (Err r) bs
    unfolding set_restriction_depth
    restriction-refused = set-refused-first bs n (set_restriction_depth n depth) [] (restricted_at depth) refl

    pub restriction-done : Bytes bs → ValidNode bs n → (after : List ℕ) → after ≡ restriction_stored n depth bs
        → Finishes (on_arena (set_restriction_depth n depth) bs) bs (Ok tt) after
    unfolding set_restriction_depth
    restriction-done bytes valid after a =
        set-done bs n (set_restriction_depth n depth) [] (restricted_at depth) refl valid after refl
        (a ∙ encode-restriction bs bytes valid.opened n (here valid) depth)
