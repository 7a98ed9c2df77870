-- The rule of a notified function: what holds where it begins serves its first node.
use Rattle.std.specs.Prelude.{ℕ, ◌≡◌, ◌+◌, ◌-◌, ◌<◌, ◌==◌, ◌&&◌, ◌||◌, nat_le, not, Bool, true, false, List, [], ◌∷◌, Option, Some, None, length, slice_get, slice_index}
use Rattle.prov_types.specs.declared.kinds.Kind.{Kind}
use Rattle.prov_types.specs.declared.kinds.Kind.TheVariants.{Num, Ptr}
use Rattle.prov_types.specs.Spans.{one}
use Rattle.prov_types.specs.Kinds.{length_of}
use Rattle.prov_cert.specs.Cert.{Node}
use Rattle.prov_layout.specs.Offsets.{every}
use Rattle.provenance_check.specs.Registers.{kinds_of, written}
use Rattle.provenance_check.specs.Rules.{is_exit, is_marked, kinds_fit, parts_fit, same_cells}
use Rattle.provenance_check.specs.Reached.{MarksReached}

-- What a notified function begins with (UEFI 2.10, 7.1, CreateEvent): ra is slot 67 of the slot page, region 5, sp is the end of
-- the stack, region 1, and a1 is its context. Nothing is known of the other registers.
unfoldable pub notified_kinds : Kind → List Kind
notified_kinds context = written (written (written (kinds_of []) 1 (Ptr 5 (one 1072))) 2 (Ptr 1 (one 65536))) 11 context

-- these serve a node, where a1 is of a kind
abbrev pub serves_with : Node → Kind → Bool
serves_with node context = kinds_fit (notified_kinds context) (kinds_of node.regs)

-- an address is in a region, or right behind it
abbrev pub is_in_region : List ℕ → List ℕ → ℕ → ℕ → Bool
is_in_region starts lens at r = nat_le (slice_index starts r) at && nat_le (at - slice_index starts r) (length_of lens r)

-- the context as an address of a region serves a node
abbrev pub serves_in : List ℕ → List ℕ → ℕ → Node → ℕ → Bool
serves_in starts lens context node r = is_in_region starts lens context r && serves_with node (Ptr r (one (context - slice_index starts r)))

-- The context is a number, or an address of one of the regions; and no part of the stack is known.
abbrev pub begins_notified : List ℕ → List ℕ → ℕ → Node → Bool
begins_notified starts lens context node =
    (serves_with node (Num (one context)) || not (every (λ r. not (serves_in starts lens context node r)) 0 1 (length starts))) && parts_fit [] node.stack

-- a node that isn't an exit that is reached has no cells to compare; of an exit the same cells are converted
abbrev pub exit_leaves : List ℕ → List Bool → ℕ → Option Node → Bool
exit_leaves done marks n None = true
exit_leaves done marks n (Some node) = not (is_marked marks n && is_exit node) || same_cells done node.done

-- At each exit of a function, by marks for the nodes that are reached from its first, just these cells are converted.
abbrev pub exits_leave : List Node → List Bool → List ℕ → Bool
exits_leave nodes marks done = every (λ n. exit_leaves done marks n (slice_get nodes n)) 0 1 (length nodes)

-- For the first node of each notified function, which nodes are reached from it.
pub record AreMarksOfEach (nodes : List Node) (notify : List ℕ) (marks : List (List Bool)) : Type 0 where
  pub long : length marks ≡ length notify
  pub reached : (i n : ℕ) (m : List Bool) → slice_get notify i ≡ Some n → slice_get marks i ≡ Some m → MarksReached nodes (n ∷ []) m
