-- Texts that are assembled, and what is said of those that aren't.
use Rattle.std.specs.Prelude.{ℕ, ◌++◌, [], ◌∷◌, List, Result, Ok, Err, if◌then◌else◌}
use Rattle.std.specs.Fmt.{decimal}
use Rattle.std.specs.Str.{is_utf8}
use Rattle.guest_build.specs.Assembled.{assembled}
use Rattle.guest_build.specs.Faults.{Place, kind_name}
use Rattle.guest_build.specs.declared.fault.AsmKind.TheVariants.{Word}

-- the image of a file, which has to be UTF-8
abbrev pub assembled_file : List ℕ → Result (List ℕ) Place
assembled_file file = if is_utf8 file then assembled file else Err (0, Word)

-- the bytes of an image, or why its text is refused, in words
abbrev pub Made : Type 0
Made = Result (List ℕ) (List ℕ)

-- a refusal in words: the name of the image or the file, the line and the kind
abbrev pub in_words : List ℕ → Result (List ℕ) Place → Made
in_words name (Ok image) = Ok image
in_words name (Err place) = Err (name ++ 32 ∷ decimal place.0 ++ 32 ∷ kind_name place.1)

-- ---- all images, or the first refusal

abbrev pub before : List ℕ → Result (List (List ℕ)) (List ℕ) → Result (List (List ℕ)) (List ℕ)
before image (Ok images) = Ok (image ∷ images)
before image (Err text) = Err text

abbrev pub before_all : Made → Result (List (List ℕ)) (List ℕ) → Result (List (List ℕ)) (List ℕ)
before_all (Ok image) others = before image others
before_all (Err text) others = Err text

unfoldable pub all_made : List Made → Result (List (List ℕ)) (List ℕ)
all_made [] = Ok []
all_made (made ∷ others) = before_all made (all_made others)
