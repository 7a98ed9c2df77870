-- What each command reads and comes to.
use Rattle.std.specs.Prelude.{ℕ, ◌++◌, List, [], ◌∷◌, Bool, true, false, Option, Some, None, Result, Ok, Err}
use Rattle.std.specs.Fmt.{decimal}
use Rattle.rv_step.specs.declared.ends.Trap.TheVariants.{Ebreak, Illegal, Ecall, Fault}
use Rattle.guest_build.specs.Assembled.{assembled}
use Rattle.image_dump.specs.Reports as dump
use Rattle.image_dump.specs.Reports.{Report, image_report}
use Rattle.image_dump.specs.Listings.{list_report}
use Rattle.host_script.specs.Faults.{Place, kind_name}
use Rattle.host_script.specs.Plain.{Plain}
use Rattle.host_script.specs.declared.fault.ScriptKind.TheVariants as kinds
use Rattle.host_script.specs.declared.script.ImageSpec.{ImageSpec}
use Rattle.host_script.specs.declared.script.Origin.{Origin}
use Rattle.host_script.specs.declared.script.Origin.TheVariants.{File, Text}
use Rattle.host_engine.specs.Assemblies.{Made, in_words, assembled_file, all_made}
use Rattle.host_engine.specs.Executions.{Cause, Bound, Trapped, flat_end}
use Rattle.host_engine.specs.Jobs.{bytes_of}
use Rattle.host_engine.specs.Limits.{script_limit, code_limit, store_limit}
use Rattle.host_engine.specs.Lines.{flat_text}
use Rattle.host_engine.specs.Plans.{Wanted, Fixed, AtOnce, ByLines, Answer, Prints, ScriptRefused, NotAssembled, Plan, Reads, Over}
use Rattle.host_engine.specs.ScriptRuns.{Run, run_of}
use Rattle.host_engine.specs.Texts.{help_text, version_text}
use Rattle.host_engine.specs.Unbuilt.{runnable}
use Rattle.host_engine.specs.Words as words
use Rattle.host_engine.specs.Words.{Command}

abbrev pub script_file : List ℕ → Wanted
script_file name = record { name = name; most = script_limit }

abbrev pub code_file : List ℕ → Wanted
code_file name = record { name = name; most = code_limit }

abbrev pub store_file : List ℕ → Wanted
store_file name = record { name = name; most = store_limit }

-- an execution is done where it ends at EBREAK, and halted elsewhere
abbrev pub halts : Cause → Bool
halts Bound = true
halts (Trapped Illegal) = true
halts (Trapped Ebreak) = false
halts (Trapped Ecall) = true
halts (Trapped (Fault at kind)) = true

abbrev pub flat_answer : List ℕ → ℕ → Answer
flat_answer file bound = Prints AtOnce (flat_text file bound) (halts (flat_end file bound).cause)

abbrev pub build_answer : Made → Answer
build_answer (Ok image) = Prints AtOnce image false
build_answer (Err text) = NotAssembled text

-- the lines on an image file, where a refused file counts as halted
abbrev pub report_answer : Report → Answer
report_answer report = Prints ByLines (dump.bytes_of report.lines) report.is_refused

-- ---- the run of a script

-- The file of an image is read, and its text is assembled.
abbrev pub origin_read : List ℕ → Origin → (Made → Plan) → Plan
origin_read name (File file) next = Reads (code_file file) (λ bytes. next (Ok bytes))
origin_read name (Text text) next = next (in_words name (assembled text))

-- all images in their order, behind what those before them are made to
unfoldable pub images_read : List ImageSpec → List Made → (List Made → Plan) → Plan
images_read [] before next = next before
images_read (image ∷ images) before next = origin_read image.name image.origin (λ made. images_read images (before ++ made ∷ []) next)

-- The file of a store is read, if there is one.
abbrev pub store_read : Option (List ℕ) → (Option (List ℕ) → Plan) → Plan
store_read None next = next None
store_read (Some name) next = Reads (store_file name) (λ bytes. next (Some bytes))

-- where a script is refused, and why, in words
abbrev pub place_text : Place → List ℕ
place_text place = decimal place.0 ++ 32 ∷ kind_name place.1

-- A script whose store is refused has no run.
abbrev pub run_answer : Option Run → Answer
run_answer (Some run) = Prints ByLines (bytes_of run.lines) run.halted
run_answer None = ScriptRefused (place_text (0, kinds.Store))

-- All files are read before a text is refused, and all texts are assembled before the store is.
abbrev pub texts_judged : Plain → Option (List ℕ) → Result (List (List ℕ)) (List ℕ) → Plan
texts_judged script store (Ok images) = Over (run_answer (run_of script (record { images = images; store = store })))
texts_judged script store (Err text) = Over (NotAssembled text)

-- what follows a script's images
abbrev pub images_judged : Plain → List Made → Plan
images_judged script made = store_read script.store (λ store. texts_judged script store (all_made made))

abbrev pub script_plan : Result Plain Place → Plan
script_plan (Ok script) = images_read script.image [] (λ made. images_judged script made)
script_plan (Err place) = Over (ScriptRefused (place_text place))

-- ---- all commands

abbrev pub plan_of : Command → Plan
plan_of words.Help = Over (Prints Fixed help_text false)
plan_of words.Version = Over (Prints Fixed version_text false)
plan_of (words.Flat name bound) = Reads (code_file name) (λ file. Over (flat_answer file bound))
plan_of (words.Build name) = Reads (code_file name) (λ file. Over (build_answer (in_words name (assembled_file file))))
plan_of (words.Image name) = Reads (code_file name) (λ file. Over (report_answer (image_report file)))
plan_of (words.Listing name) = Reads (code_file name) (λ file. Over (report_answer (list_report file)))
plan_of (words.Run name) = Reads (script_file name) (λ document. script_plan (runnable document))
