-- What lines make of the sections, and where these lie in the image and in its file.
use Rattle.std.specs.Prelude.{ℕ, ◌==◌, ◌&&◌, Bool, not, List, [], ◌∷◌, ◌++◌, length, nat_lt}
use Rattle.guest_build.specs.Places.{sum, round_up, headers_size, text_at, data_at, section_behind, settings_with, alignment_in, no_settings, most}
use Rattle.guest_build.specs.Relocations.{placed, table_of}
use Rattle.guest_build.specs.declared.places.Section.{Section}
use Rattle.guest_build.specs.declared.places.Section.TheVariants as sections
use Rattle.guest_build.specs.declared.places.Settings.{Settings}
use Rattle.guest_build.specs.declared.relocation.Site.{Site}
use Rattle.guest_build.specs.declared.relocation.SiteKind.TheVariants as kinds
use Rattle.guest_build.specs.declared.statement.Operand.TheVariants as operands
use Rattle.guest_build.specs.declared.statement.Statement.{Statement}
use Rattle.guest_build.specs.declared.statement.Statement.TheVariants as statements

-- a section's bytes, and its sites by their offsets in it
pub record Content : Type 0 where
  pub bytes : List ℕ
  pub sites : List Site

-- what lines have made so far
pub record Sections : Type 0 where
  pub section : Section
  pub in_text : Content
  pub in_data : Content
  pub settings : Settings

abbrev pub no_content : Content
no_content = record { bytes = []; sites = [] }

abbrev pub no_sections : Sections
no_sections = record { section = sections.Text; in_text = no_content; in_data = no_content; settings = no_settings }

-- ---- one line more

abbrev pub site_at : ℕ → Statement → List Site
site_at at (statements.Address target) = record { at = at; kind = kinds.Dir64 } ∷ []
site_at at (statements.Instruction insn (operands.High target)) = record { at = at; kind = kinds.High20 } ∷ []
site_at at statement = []

unfoldable pub content_with : Content → Statement → List ℕ → Content
content_with before statement bytes = record {
  bytes = before.bytes ++ bytes;
  sites = before.sites ++ site_at (length before.bytes) statement;
}

abbrev pub content_in : Sections → Section → Content
content_in before sections.Text = before.in_text
content_in before sections.Data = before.in_data

abbrev pub text_with : Section → Statement → List ℕ → Content → Content
text_with sections.Text statement bytes before = content_with before statement bytes
text_with sections.Data statement bytes before = before

abbrev pub data_with : Section → Statement → List ℕ → Content → Content
data_with sections.Text statement bytes before = before
data_with sections.Data statement bytes before = content_with before statement bytes

unfoldable pub sections_with : Sections → Statement → List ℕ → Sections
sections_with before statement bytes = record {
  section = section_behind before.section statement;
  in_text = text_with before.section statement bytes before.in_text;
  in_data = data_with before.section statement bytes before.in_data;
  settings = settings_with before.settings statement;
}

-- ---- the layout: each section at the next multiple of the alignment

abbrev pub has_sites : Sections → Bool
has_sites all = not (length all.in_text.sites == 0 && length all.in_data.sites == 0)

pub record Layout : Type 0 where
  pub alignment : ℕ
  pub headers : ℕ
  pub text_from : ℕ
  pub data_from : ℕ
  pub reloc_from : ℕ
  -- the bytes of .reloc
  pub table : List ℕ
  -- SizeOfImage
  pub size : ℕ

abbrev pub sites_of : (text_from data_from : ℕ) → Sections → List Site
sites_of text_from data_from all = placed text_from all.in_text.sites ++ placed data_from all.in_data.sites

unfoldable pub layout_of : Sections → Layout
layout_of all =
    let alignment = alignment_in all.settings in
    let text_from = text_at alignment (length all.in_data.bytes) (has_sites all) in
    let data_from = data_at alignment (length all.in_text.bytes) (length all.in_data.bytes) (has_sites all) in
    let reloc_from = round_up alignment (sum data_from (length all.in_data.bytes)) in
    let table = table_of (sites_of text_from data_from all) in record {
      alignment = alignment;
      headers = headers_size alignment (length all.in_data.bytes) (has_sites all);
      text_from = text_from;
      data_from = data_from;
      reloc_from = reloc_from;
      table = table;
      size = round_up alignment (sum reloc_from (length table));
    }

-- SizeOfImage is above 1 MiB
unfoldable pub is_large : Sections → Bool
is_large all = nat_lt most (layout_of all).size
