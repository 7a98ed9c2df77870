-- What the program answers, what it puts, and why.
use Rattle.std.specs.Prelude.{ℕ, ◌≡◌, ◌++◌, ◌∷◌, ◌⊎◌, [], List, Bool, true, false, Option, Some, None, Result, Ok, Err, codes, string_bytes}
use Rattle.uh_base.specs.Counts.{Rose}
use Rattle.uh_base.specs.Told.{FileMap, Lacks, IsLonger, grown, GrownByPart}
use Rattle.host_engine.specs.declared.refusal.Refusal.{Refusal}
use Rattle.host_engine.specs.declared.refusal.Refusal.TheVariants as why
use Rattle.host_engine.specs.declared.status.Status.{Status}
use Rattle.host_engine.specs.declared.status.Status.TheVariants.{Done, Halted, Words, Script, Read, Size, Write, Memory, Assembly}
use Rattle.host_engine.specs.Outside.{Outside}
use Rattle.host_engine.specs.Commands.{plan_of}
use Rattle.host_engine.specs.Plans.{Wanted, Way, Fixed, ByLines, Answer, Prints, ScriptRefused, NotAssembled, Plan, Over, first_missing, Leads, IsRead, IsMissing}
use Rattle.host_engine.specs.Words.{Command}

-- the exit status of an answer
abbrev pub code_of : Status → ℕ
code_of Done = 0
code_of Halted = 1
code_of Words = 2
code_of Script = 3
code_of Read = 4
code_of Write = 5
code_of Memory = 6
code_of Size = 7
code_of Assembly = 8

-- The whole text of a plan was put, and its run is halted or not.
pub record PutWhole (plan : Plan) (halted : Bool) (old new : Outside) : Type 0 where
  pub way : Way
  pub text : List ℕ
  pub comes : Leads old.files plan (Over (Prints way text halted))
  pub put : new.out ≡ grown old.out text

-- A part of it was put, from its front.
pub record PutPart (way : Way) (plan : Plan) (old new : Outside) : Type 0 where
  pub text : List ℕ
  pub halted : Bool
  pub comes : Leads old.files plan (Over (Prints way text halted))
  pub put : GrownByPart old.out text new.out

-- A read of a file failed in this call; or, where files are told, it isn't there, and it is the first that is missing.
-- Nothing was put.
pub record Unread (plan : Plan) (name : List ℕ) (old new : Outside) : Type 0 where
  pub wanted : Wanted
  pub named : name ≡ wanted.name
  pub is_read : IsRead old.files plan wanted
  pub cause : Rose old.file_faults new.file_faults ⊎ (IsMissing old.files plan wanted × Lacks old.files wanted.name)
  pub nothing_put : new.out ≡ old.out

-- A file was found too long in this call; where files are told, it is, and it is the first that is missing. Nothing was
-- put.
pub record TooLong (plan : Plan) (name : List ℕ) (old new : Outside) : Type 0 where
  pub wanted : Wanted
  pub named : name ≡ wanted.name
  pub is_read : IsRead old.files plan wanted
  pub rose : Rose old.longs new.longs
  pub missing : IsMissing old.files plan wanted
  pub longer : IsLonger old.files wanted.name wanted.most
  pub nothing_put : new.out ≡ old.out

-- A fixed text takes no memory.
abbrev pub TakesMemory : Plan → Type 0
TakesMemory (Over (Prints Fixed text halted)) = ⊥
TakesMemory plan = Unit {0}

-- Memory was wanting: before anything was put, or between lines.
abbrev pub Wanting : Plan → Outside → Outside → Type 0
Wanting plan old new = TakesMemory plan × ((new.out ≡ old.out) ⊎ PutPart ByLines plan old new)

-- A plan comes to this answer, and nothing was put.
abbrev pub Refused : Plan → Answer → Outside → Outside → Type 0
Refused plan answer old new = Leads old.files plan (Over answer) × (new.out ≡ old.out)

-- What a command may answer, with the cause and with what was put; true where its run is halted.
abbrev pub CommandGives : Plan → Result Bool Refusal → Outside → Outside → Type 0
CommandGives plan (Ok halted) old new = PutWhole plan halted old new
CommandGives plan (Err (why.Read name)) old new = Unread plan name old new
CommandGives plan (Err (why.Size name)) old new = TooLong plan name old new
CommandGives plan (Err (why.Script text)) old new = Refused plan (ScriptRefused (string_bytes text)) old new
CommandGives plan (Err (why.Assembly text)) old new = Refused plan (NotAssembled (string_bytes text)) old new
CommandGives plan (Err why.Write) old new = Rose old.out_faults new.out_faults × ((way : Way) × PutPart way plan old new)
CommandGives plan (Err why.Memory) old new = Wanting plan old new

-- ---- the status, and what is said to the error output

abbrev pub status_of : Result Bool Refusal → Status
status_of (Ok false) = Done
status_of (Ok true) = Halted
status_of (Err (why.Read name)) = Read
status_of (Err (why.Size name)) = Size
status_of (Err (why.Script text)) = Script
status_of (Err (why.Assembly text)) = Assembly
status_of (Err why.Write) = Write
status_of (Err why.Memory) = Memory

-- the name or the fault in an answer
abbrev pub text_in : Result Bool Refusal → List ℕ
text_in (Ok halted) = []
text_in (Err (why.Read name)) = name
text_in (Err (why.Size name)) = name
text_in (Err (why.Script text)) = string_bytes text
text_in (Err (why.Assembly text)) = string_bytes text
text_in (Err why.Write) = []
text_in (Err why.Memory) = []

-- the message of a refusal
abbrev pub message : List ℕ → List ℕ → List ℕ
message reason text = codes "uefihost: " ++ reason ++ text ++ 10 ∷ []

-- A message was put whole, or in part where the sink failed in this call.
abbrev pub Says : List ℕ → Option (List ℕ) → ℕ → Option (List ℕ) → ℕ → Type 0
Says text old faults new faults' = (new ≡ grown old text) ⊎ (Rose faults faults' × GrownByPart old text new)

-- What is put to the error output: nothing where all was put, and else why not, with a name or a fault.
abbrev pub ErrGives : Status → List ℕ → Option (List ℕ) → ℕ → Option (List ℕ) → ℕ → Type 0
ErrGives Done text old faults new faults' = new ≡ old
ErrGives Halted text old faults new faults' = new ≡ old
ErrGives Words text old faults new faults' = Says (message (codes "usage") []) old faults new faults'
ErrGives Script text old faults new faults' = Says (message (codes "script ") text) old faults new faults'
ErrGives Read text old faults new faults' = Says (message (codes "read ") text) old faults new faults'
ErrGives Size text old faults new faults' = Says (message (codes "size ") text) old faults new faults'
ErrGives Assembly text old faults new faults' = Says (message (codes "assembly ") text) old faults new faults'
ErrGives Write text old faults new faults' = Says (message (codes "write") []) old faults new faults'
ErrGives Memory text old faults new faults' = Says (message (codes "memory") []) old faults new faults'

-- What the program answers to words, which may ask for no command, and what it puts to both outputs: `err` and
-- `faults` are of the error output, before and behind.
abbrev pub HostGives : Option Command → Status → Outside → Outside → Option (List ℕ) → ℕ → Option (List ℕ) → ℕ → Type 0
HostGives None status old new err faults err' faults' = (status ≡ Words) × (new.out ≡ old.out) × ErrGives status [] err faults err' faults'
HostGives (Some command) status old new err faults err' faults' =
    (answer : Result Bool Refusal) × CommandGives (plan_of command) answer old new × (status ≡ status_of answer) × ErrGives status (text_in answer) err faults err' faults'

-- ---- where files are told and no read fails, the files that are there decide

-- the answer for the first file that isn't there within its limit, which has these bytes, if it is there at all
abbrev pub MissingGives : Option (List ℕ) → Status → Type 0
MissingGives None status = (status ≡ Read) ⊎ (status ≡ Memory)
MissingGives (Some bytes) status = (status ≡ Size) ⊎ (status ≡ Memory)

-- All files are there: all is put, or a script or a text is refused, unless a put fails or memory is wanting.
abbrev pub ThereGives : Status → Outside → Outside → Type 0
ThereGives status old new =
    ¬ Rose old.out_faults new.out_faults → (status ≡ Done) ⊎ ((status ≡ Halted) ⊎ ((status ≡ Script) ⊎ ((status ≡ Assembly) ⊎ (status ≡ Memory))))

abbrev pub FilesGive : FileMap → Option Wanted → Status → Outside → Outside → Type 0
FilesGive files None status old new = ThereGives status old new
FilesGive files (Some wanted) status old new = MissingGives (files wanted.name) status

abbrev pub IsComplete : Option Command → Status → Outside → Outside → Type 0
IsComplete None status old new = status ≡ Words
IsComplete (Some command) status old new =
    (files : FileMap) → old.files ≡ Some files → ¬ Rose old.file_faults new.file_faults → FilesGive files (first_missing files (plan_of command)) status old new

-- ---- both

-- What the program does with words: what it answers and puts, with the cause, and that the files that are there decide.
-- `err` and `faults` are of the error output, before and behind.
pub record HostDoes (command : Option Command) (status : Status) (old new : Outside) (err : Option (List ℕ)) (faults : ℕ) (err' : Option (List ℕ)) (faults' : ℕ) : Type 0 where
  pub gives : HostGives command status old new err faults err' faults'
  pub complete : IsComplete command status old new
