-- The words of causes.
use Rattle.std.specs.Prelude.{ℕ, List, [], ◌∷◌, codes, Option, Some, None, if◌then◌else◌}
use Rattle.std.specs.Str.{bytes_eq}
use Rattle.record_text.specs.declared.cause.Cause.{Cause}
use Rattle.record_text.specs.declared.cause.Cause.TheVariants as causes

abbrev pub cause_name : Cause → List ℕ
cause_name causes.Illegal = codes "illegal"
cause_name causes.Ebreak = codes "ebreak"
cause_name causes.Ecall = codes "ecall"
cause_name causes.Fetch = codes "fetch"
cause_name causes.Load = codes "load"
cause_name causes.Store = codes "store"
cause_name causes.Bound = codes "bound"
cause_name causes.Idle = codes "idle"
cause_name causes.Tpl = codes "tpl"
cause_name causes.BootGone = codes "boot-gone"
cause_name causes.Depth = codes "depth"
cause_name causes.Frames = codes "frames"

-- the first of some causes with a word
abbrev pub cause_in : List Cause → List ℕ → Option Cause
cause_in [] word = None
cause_in (cause ∷ others) word = if bytes_eq (cause_name cause) word then Some cause else cause_in others word

abbrev pub all_causes : List Cause
all_causes =
    causes.Illegal ∷ causes.Ebreak ∷ causes.Ecall ∷ causes.Fetch ∷ causes.Load ∷ causes.Store ∷ causes.Bound ∷ causes.Idle
    ∷ causes.Tpl ∷ causes.BootGone ∷ causes.Depth ∷ causes.Frames ∷ []

-- the cause of a word
unfoldable pub cause_of : List ℕ → Option Cause
cause_of word = cause_in all_causes word
