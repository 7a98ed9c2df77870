-- The bytes of an instruction decode to it.
use Rattle.std.proofs.Common.{◌≡◌, ℕ, ℤ, ◌<◌, ◌/◌, ◌%◌, List, take, drop, Result, Ok, Err, refl, subst, inl, inr, arith}
use Rattle.std.proofs.lemmas.Bool.{cases_Bool}
use Rattle.uh_base.specs.LittleEndian.{little_endian, low_bytes}
use Rattle.rv_decode.specs.Encoded.{encoded}
use Rattle.rv_decode.specs.Fits.{fits}
use Rattle.rv_decode.specs.declared.insn.Insn.{Insn}
use Rattle.rv_decode.specs.WordLaws.{WordsFit, WordsDecode}
use Rattle.guest_build.specs.Codes.{imm_of, with_imm, word_bytes, bytes_at}
use Rattle.guest_build.specs.Decodes.{Decodes, InstructionsDecode}
use Rattle.uh_base.specs.Answers.{◌>>=◌}
use Rattle.guest_build.specs.declared.fault.AsmKind.{AsmKind}

low_half : (w : ℕ) → little_endian (take 2 (low_bytes 4 w)) ≡ w % 65536
unfolding little_endian low_bytes
low_half w = omega arith

high_half : (w : ℕ) → w < 4294967296 → little_endian (drop 2 (low_bytes 4 w)) ≡ w / 65536
unfolding little_endian low_bytes
high_half w h = omega arith

word_decodes : WordsFit → WordsDecode → (insn : Insn) (bytes : List ℕ) → word_bytes insn ≡ Ok bytes → Decodes bytes insn
unfolding word_bytes
word_decodes words_fit words_decode insn bytes h =
    elim (cases_Bool (fits insn)) [
      | inl good ↦
          let is : low_bytes 4 (encoded insn) ≡ bytes = (let e = rw good at h in cc) in
          subst (λ (bs : List ℕ). Decodes bs insn) is
          (rw (low_half (encoded insn), high_half (encoded insn) (words_fit insn)) (words_decode insn good))
      | inr bad ↦ let e = rw bad at h in absurd cc
    ]

by_imm : WordsFit → WordsDecode → (insn : Insn) (bytes : List ℕ) (made : Result ℤ AsmKind) → (made >>= λ imm. word_bytes (with_imm insn imm)) ≡ Ok bytes
    → (imm : ℤ) × (made ≡ Ok imm) × Decodes bytes (with_imm insn imm)
by_imm words_fit words_decode insn bytes (Ok imm) h = (imm, refl, word_decodes words_fit words_decode (with_imm insn imm) bytes h)
by_imm words_fit words_decode insn bytes (Err kind) h = absurd cc

pub instructions : WordsFit → WordsDecode → InstructionsDecode
unfolding bytes_at
instructions words_fit words_decode origins find here insn operand bytes h = by_imm words_fit words_decode insn bytes (imm_of origins find here operand) h
