-- The rule of an entry: what holds where a call begins serves its first node.
use Rattle.std.specs.Prelude.{ℕ, zero, suc, ◌≡◌, ◌+◌, ◌<◌, ◌==◌, ◌&&◌, nat_le, Bool, true, false, List, [], ◌∷◌, Option, Some, None, if◌then◌else◌, replicate, slice_get}
use Rattle.prov_types.specs.declared.kinds.Kind.{Kind}
use Rattle.prov_types.specs.declared.kinds.Kind.TheVariants.{Any, Num, Ptr, Opt}
use Rattle.prov_types.specs.Spans.{one}
use Rattle.prov_cert.specs.declared.cert.RegKind.{RegKind}
use Rattle.prov_cert.specs.Cert.{Entry, Node}
use Rattle.provenance_check.specs.Registers.{kinds_of, naming, written}
use Rattle.provenance_check.specs.Rules.{kinds_fit, parts_fit}

-- the first number from i on, of so many, at which a test fails
unfoldable pub first_from : (ℕ → Bool) → (i n : ℕ) → Option ℕ
first_from test i zero = None
first_from test i (suc n) = if test i then first_from test (i + 1) n else Some i

-- a number at which a test fails is the first, where the test passes at each before it
abbrev pub FirstFails : Type 0
FirstFails = (test : ℕ → Bool) (n m : ℕ) → m < n → ((k : ℕ) → k < m → test k ≡ true) → test m ≡ false → first_from test 0 n ≡ Some m

-- none fails where the test passes at each
abbrev pub NoneFails : Type 0
NoneFails = (test : ℕ → Bool) (n : ℕ) → ((k : ℕ) → k < n → test k ≡ true) → first_from test 0 n ≡ None

-- the test passes at each where none fails
abbrev pub EachPasses : Type 0
EachPasses = (test : ℕ → Bool) (n k : ℕ) → first_from test 0 n ≡ None → k < n → test k ≡ true

-- an argument's kind: a number, or an address in the OS arguments, region 2, which may also be 0
abbrev pub is_given : Kind → Bool
is_given (Num s) = true
is_given (Ptr r s) = r == 2
is_given (Opt r s) = r == 2
is_given Any = false

-- an argument stands in one of a0 to a7, which are the registers 10 to 17
abbrev pub is_argument : RegKind → Bool
is_argument k = nat_le 10 k.reg && (nat_le k.reg 17 && is_given k.kind)

unfoldable pub are_arguments : List RegKind → Bool
are_arguments [] = true
are_arguments (k ∷ ks) = is_argument k && are_arguments ks

-- Where a call begins, ra is the OS return page, region 3, sp the end of the stack, region 1, and every register that is no
-- argument is 0.
unfoldable pub start_kinds : List RegKind → List Kind
start_kinds arguments = naming (written (written (replicate 32 (Num (one 0))) 1 (Ptr 3 (one 0))) 2 (Ptr 1 (one 65536))) arguments

abbrev pub begins_at : List RegKind → Option Node → Bool
begins_at arguments None = false
begins_at arguments (Some node) = kinds_fit (start_kinds arguments) (kinds_of node.regs) && parts_fit [] node.stack

-- Entry: the arguments are ones, and what holds where the call begins serves its node.
abbrev pub entry_rule : List Node → Entry → Bool
entry_rule nodes entry = are_arguments entry.arg_kinds && begins_at entry.arg_kinds (slice_get nodes entry.node)

abbrev pub entry_passes : List Node → Option Entry → Bool
entry_passes nodes None = true
entry_passes nodes (Some entry) = entry_rule nodes entry

-- the number of the first entry whose rule fails, of so many
abbrev pub first_entry : List Node → List Entry → (n : ℕ) → Option ℕ
first_entry nodes entries n = first_from (λ i. entry_passes nodes (slice_get entries i)) 0 n
