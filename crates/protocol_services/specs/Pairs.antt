-- The arguments of InstallMultipleProtocolInterfaces and UninstallMultipleProtocolInterfaces (UEFI 2.10, sections 7.3.17 and
-- 7.3.18), which are as many as the caller likes, where `see` is the place that each address shows and `x` are the registers
-- of the call.
use Rattle.std.specs.Prelude.{ℕ, zero, suc, ◌+◌, ◌-◌, ◌*◌, ◌==◌, nat_lt, List, [], ◌∷◌, Option, Some, None, slice_index, if◌then◌else◌}
use Rattle.std.specs.Option.{option_map}
use Rattle.uh_base.specs.declared.guid.Guid.{Guid}
use Rattle.uh_base.specs.Bytes.{behind}
use Rattle.guest_memory.specs.Pages.{Pages}
use Rattle.address_view.specs.Seen.{all_pass, is_seen}
use Rattle.guest_call.specs.Arguments.{argument}
use Rattle.guest_call.specs.Checks.{can_read, number_seen}
use Rattle.guest_call.specs.Inputs.{guid_seen}
use Rattle.protocol_services.specs.declared.pairs.NextPair.{NextPair}
use Rattle.protocol_services.specs.declared.pairs.NextPair.TheVariants.{Pair, End, Bad}

-- the word of eight bytes at an address, where all of it is seen
abbrev pub word_seen : (ℕ → Option ℕ) → Pages → ℕ → Option ℕ
word_seen see m at = if all_pass (is_seen see m) at 8 then Some (number_seen see m at 8) else None

-- argument n, from 0 on: the first eight stand in registers, the others one behind another from the stack pointer, x2, on
unfoldable pub any_argument : List ℕ → (ℕ → Option ℕ) → Pages → ℕ → Option ℕ
any_argument x see m n = if nat_lt n 8 then Some (argument n x) else word_seen see m (behind (slice_index x 2) (8 * (n - 8)))

abbrev pub pair_with : (ℕ → Option ℕ) → Pages → ℕ → Option ℕ → NextPair
pair_with see m at None = Bad
pair_with see m at (Some interface) = if can_read see m at 16 then Pair (guid_seen see m at) interface else Bad

abbrev pub pair_or_end : List ℕ → (ℕ → Option ℕ) → Pages → ℕ → Option ℕ → NextPair
pair_or_end x see m n None = Bad
pair_or_end x see m n (Some at) = if at == 0 then End else pair_with see m at (any_argument x see m (n + 1))

-- two arguments are the pointer to a GUID and an interface; in place of a pointer, 0 ends the pairs
unfoldable pub next_pair : List ℕ → (ℕ → Option ℕ) → Pages → ℕ → NextPair
next_pair x see m n = pair_or_end x see m n (any_argument x see m n)

abbrev pub with_next : NextPair → Option (List (Guid × ℕ)) → Option (List (Guid × ℕ))
with_next End later = Some []
with_next Bad later = None
with_next (Pair guid interface) later = option_map (λ pairs. (guid, interface) ∷ pairs) later

-- the pairs from argument n on, whose end is one of so many; none where it isn't, or where one of them can't be read
unfoldable pub pairs_from : ℕ → List ℕ → (ℕ → Option ℕ) → Pages → ℕ → Option (List (Guid × ℕ))
pairs_from zero x see m n = None
pairs_from (suc left) x see m n = with_next (next_pair x see m n) (pairs_from left x see m (n + 2))

-- the pairs of a call, at most 32
abbrev pub pairs_of : List ℕ → (ℕ → Option ℕ) → Pages → Option (List (Guid × ℕ))
pairs_of x see m = pairs_from 33 x see m 1
