-- What an instruction asks for, in kinds, and what that says of the same instruction in two runs. (RISC-V unprivileged manual,
-- version 20191213)
use Rattle.std.specs.Prelude.{ℕ, ℤ, ◌≡◌, ◌+◌, ◌<◌, ◌==◌, ◌&&◌, Bool, true, false, List, Option, Some, None, if◌then◌else◌, FitsSigned}
use Rattle.std.specs.Int.{w64}
use Rattle.rv_decode.specs.declared.insn.Insn.{Insn}
use Rattle.rv_decode.specs.declared.insn.Op.{Op}
use Rattle.rv_decode.specs.declared.insn.Op.TheVariants as ops
use Rattle.rv_step.specs.declared.ask.Ask.{Ask}
use Rattle.rv_step.specs.declared.ask.Ask.TheVariants.{Set, Load, Store, Jump}
use Rattle.uh_base.specs.Bytes.{plus}
use Rattle.rv_step.specs.Values.{bits_of}
use Rattle.rv_step.specs.Asks.{even}
use Rattle.prov_types.specs.declared.kinds.Place.{Place}
use Rattle.prov_types.specs.declared.kinds.Kind.{Kind}
use Rattle.prov_types.specs.declared.kinds.Kind.TheVariants.{Num, Ptr, Opt}
use Rattle.prov_types.specs.Spans.{one}
use Rattle.prov_types.specs.Kinds.{Regions, Holds}
use Rattle.prov_types.specs.Fits.{is_null}
use Rattle.prov_types.specs.Transfer.{transfer_as, moved}
use Rattle.prov_types.specs.Narrow.{narrow_between, is_equality}

abbrev pub is_equality_or_unsigned : Op → Bool
is_equality_or_unsigned ops.Beq = true
is_equality_or_unsigned ops.Bne = true
is_equality_or_unsigned ops.Bltu = true
is_equality_or_unsigned ops.Bgeu = true
is_equality_or_unsigned _ = false

-- Whether a branch may compare such kinds: two numbers; two pointers into one region, but not by BLT and BGE; and a pointer, or
-- what may be 0, with 0, by BEQ and BNE.
unfoldable pub may_compare : Op → Kind → Kind → Bool
may_compare op (Num s) (Num t) = true
may_compare op (Ptr r s) (Ptr q t) = r == q && is_equality_or_unsigned op
may_compare op (Ptr r s) (Num t) = is_equality op && is_null t
may_compare op (Opt r s) (Num t) = is_equality op && is_null t
may_compare op (Num s) (Ptr r t) = is_equality op && is_null s
may_compare op (Num s) (Opt r t) = is_equality op && is_null s
may_compare op _ _ = false

-- What an instruction asks for, in kinds: a kind for a register; a load or a store at an address of a kind; a branch by the kinds
-- that it compares, to one of two offsets of the image; a jump to an offset, or to a target of a kind; a trap.
pub data KindAsk : Type 0 where
  Sets : (rd : ℕ) (kind : Kind) → KindAsk
  Loads : (rd : ℕ) (at : Kind) (width : ℕ) (sign : Bool) → KindAsk
  Stores : (at : Kind) (width : ℕ) (value : Kind) → KindAsk
  Forks : (op : Op) (a b : Kind) (behind target : ℕ) → KindAsk
  Goes : (to rd : ℕ) → KindAsk
  Jumps : (to : Kind) (rd : ℕ) → KindAsk
  Stops : KindAsk

abbrev pub forks_as : Op → ℤ → Place → (a b : Kind) → KindAsk
forks_as op imm place a b = Forks op a b (plus place.at place.len) (plus place.at (bits_of imm))

-- one line a name; the last is of all that sets a register by its operands
abbrev pub kind_asked : Op → List ℕ → ℤ → Place → (rd : ℕ) → (a b : Kind) → KindAsk
kind_asked ops.Jal lens imm place rd a b = Goes (plus place.at (bits_of imm)) rd
kind_asked ops.Jalr lens imm place rd a b = Jumps (moved lens a imm) rd
kind_asked ops.Beq lens imm place rd a b = forks_as ops.Beq imm place a b
kind_asked ops.Bne lens imm place rd a b = forks_as ops.Bne imm place a b
kind_asked ops.Blt lens imm place rd a b = forks_as ops.Blt imm place a b
kind_asked ops.Bge lens imm place rd a b = forks_as ops.Bge imm place a b
kind_asked ops.Bltu lens imm place rd a b = forks_as ops.Bltu imm place a b
kind_asked ops.Bgeu lens imm place rd a b = forks_as ops.Bgeu imm place a b
kind_asked ops.Lb lens imm place rd a b = Loads rd (moved lens a imm) 1 true
kind_asked ops.Lh lens imm place rd a b = Loads rd (moved lens a imm) 2 true
kind_asked ops.Lw lens imm place rd a b = Loads rd (moved lens a imm) 4 true
kind_asked ops.Ld lens imm place rd a b = Loads rd (moved lens a imm) 8 false
kind_asked ops.Lbu lens imm place rd a b = Loads rd (moved lens a imm) 1 false
kind_asked ops.Lhu lens imm place rd a b = Loads rd (moved lens a imm) 2 false
kind_asked ops.Lwu lens imm place rd a b = Loads rd (moved lens a imm) 4 false
kind_asked ops.Sb lens imm place rd a b = Stores (moved lens a imm) 1 b
kind_asked ops.Sh lens imm place rd a b = Stores (moved lens a imm) 2 b
kind_asked ops.Sw lens imm place rd a b = Stores (moved lens a imm) 4 b
kind_asked ops.Sd lens imm place rd a b = Stores (moved lens a imm) 8 b
kind_asked ops.Fence lens imm place rd a b = Sets 0 (Num (one 0))
kind_asked ops.Ecall lens imm place rd a b = Stops
kind_asked ops.Ebreak lens imm place rd a b = Stops
kind_asked op lens imm place rd a b = Sets rd (transfer_as op imm place a b lens)

-- with the kinds of registers
unfoldable pub asked_kinds : List ℕ → Insn → Place → (ℕ → Kind) → KindAsk
asked_kinds lens insn place kinds = kind_asked insn.op lens insn.imm place insn.rd (kinds insn.rs1) (kinds insn.rs2)

pub record SetsAlike (g : Regions) (rd : ℕ) (kind : Kind) (m n v w : ℕ) : Type 0 where
  pub first : m ≡ rd
  pub second : n ≡ rd
  pub value : Holds g kind v w

pub record LoadsAlike (g : Regions) (rd : ℕ) (at : Kind) (width : ℕ) (sign : Bool) (m n v w i j : ℕ) (x y : Bool) : Type 0 where
  pub first : m ≡ rd
  pub second : n ≡ rd
  pub width_first : i ≡ width
  pub width_second : j ≡ width
  pub sign_first : x ≡ sign
  pub sign_second : y ≡ sign
  pub address : Holds g at v w

pub record StoresAlike (g : Regions) (at : Kind) (width : ℕ) (kind : Kind) (v w i j x y : ℕ) : Type 0 where
  pub width_first : i ≡ width
  pub width_second : j ≡ width
  pub address : Holds g at v w
  pub value : Holds g kind x y

-- to one offset of the image, modulo 2^64
pub record GoesAlike (g : Regions) (to rd v w m n : ℕ) : Type 0 where
  pub first : m ≡ rd
  pub second : n ≡ rd
  pub old_to : v ≡ plus (g.old 0) to
  pub new_to : w ≡ plus (g.new 0) to

-- to what a target of a kind is, with bit 0 cleared
pub record JumpsAlike (g : Regions) (to : Kind) (rd v w m n : ℕ) : Type 0 where
  pub first : m ≡ rd
  pub second : n ≡ rd
  pub old_whole : ℕ
  pub new_whole : ℕ
  pub old_to : v ≡ even old_whole
  pub new_to : w ≡ even new_whole
  pub target : Holds g to old_whole new_whole

-- values of both kinds, which are there
abbrev pub BothHold : Regions → (v v' w w' : ℕ) → Option (Kind × Kind) → Type 0
BothHold g v v' w w' None = ⊥
BothHold g v v' w w' (Some (a, b)) = Holds g a v v' × Holds g b w w'

-- a branch goes one way in both runs, and what that says of the two registers
pub record ForksAlike (g : Regions) (op : Op) (a b : Kind) (behind target v v' w w' x y m n : ℕ) : Type 0 where
  pub went : Bool
  pub goes : GoesAlike g (if went then target else behind) 0 x y m n
  pub narrowed : BothHold g v v' w w' (narrow_between op went a b)

-- What is asked in the two runs is as the kinds say. v and v' are what rs1 holds in them, w and w' what rs2 holds.
abbrev pub AskHolds : Regions → (v v' w w' : ℕ) → KindAsk → Ask → Ask → Type 0
AskHolds g v v' w w' (Sets rd kind) (Set m x) (Set n y) = SetsAlike g rd kind m n x y
AskHolds g v v' w w' (Loads rd at width sign) (Load m a i x) (Load n b j y) = LoadsAlike g rd at width sign m n a b i j x y
AskHolds g v v' w w' (Stores at width kind) (Store a i x) (Store b j y) = StoresAlike g at width kind a b i j x y
AskHolds g v v' w w' (Forks op a b behind target) (Jump x m) (Jump y n) = may_compare op a b ≡ true → ForksAlike g op a b behind target v v' w w' x y m n
AskHolds g v v' w w' (Goes to rd) (Jump x m) (Jump y n) = GoesAlike g to rd x y m n
AskHolds g v v' w w' (Jumps to rd) (Jump x m) (Jump y n) = JumpsAlike g to rd x y m n
AskHolds g v v' w w' Stops _ _ = Unit {0}
AskHolds g v v' w w' _ _ _ = ⊥

-- what is written to rd without memory: the value that is set, or the address behind a jump
abbrev pub WrittenHolds : Regions → Kind → (next next' : ℕ) → Ask → Ask → Type 0
WrittenHolds g kind next next' (Set m x) (Set n y) = Holds g kind x y
WrittenHolds g kind next next' (Jump x m) (Jump y n) = Holds g kind next next'
WrittenHolds g kind next next' _ _ = Unit {0}

-- A LUI under a HIGH20 site, which names an offset of the image where the image lies in either run; every other instruction is
-- one in both.
pub record SiteMoves (g : Regions) (target : ℕ) (insn other : Insn) : Type 0 where
  pub is_lui : insn.op ≡ ops.Lui
  pub other_is : other.op ≡ ops.Lui
  pub same_rd : other.rd ≡ insn.rd
  pub old_names : bits_of insn.imm ≡ g.old 0 + target
  pub new_names : bits_of other.imm ≡ g.new 0 + target
  pub fits : FitsSigned w64 other.imm
  pub rd_fits : other.rd < 32

abbrev pub SiteHolds : Regions → Option ℕ → Insn → Insn → Type 0
SiteHolds g None insn other = other ≡ insn
SiteHolds g (Some target) insn other = SiteMoves g target insn other
