-- What holds of the sections of a text that is assembled, and of their layout.
use Rattle.std.proofs.Common.{◌≡◌, ◌≤◌, ◌<◌, ◌⊎◌, ℕ, ◌+◌, ◌*◌, ◌%◌, ◌^◌, List, length, All}
use Rattle.std.specs.List.{AllPairs}
use Rattle.base_reloc.specs.Sites.{width_of}
use Rattle.guest_build.specs.Image.{data_raw, reloc_raw, raw_size}
use Rattle.guest_build.specs.Layout.{Sections, layout_of, has_sites}
use Rattle.guest_build.specs.Places.{base_in, subsystem_in, section_count}
use Rattle.guest_build.specs.Read.{kind_read}
use Rattle.guest_build.specs.declared.relocation.Site.{Site}

-- where a site ends
abbrev pub end_of : Site → ℕ
end_of site = site.at + width_of (kind_read site.kind)

-- Sites lie in so many bytes, ascending and apart.
pub record AreIn (len : ℕ) (sites : List Site) : Type 0 where
  pub inside : All (λ (site : Site). end_of site ≤ len) sites
  pub ascending : AllPairs (λ (one other : Site). end_of one ≤ other.at) sites

-- all bytes of the sections and of the table of base relocations
abbrev pub filled : Sections → ℕ
filled all = length all.in_text.bytes + length all.in_data.bytes + length (layout_of all).table

pub record IsSound (entry : ℕ) (all : Sections) : Type 0 where
  pub base_fits : base_in all.settings < 2 ^ 64
  pub base_pages : base_in all.settings % 4096 ≡ 0
  pub subsystem : (10 ≤ subsystem_in all.settings) × (subsystem_in all.settings ≤ 12)
  pub entry_inside : entry ≤ (layout_of all).size
  pub text_sites : AreIn (length all.in_text.bytes) all.in_text.sites
  pub data_sites : AreIn (length all.in_data.bytes) all.in_data.sites

-- No sum of the layout passes 2^64: each part stands behind the one before it.
pub record IsLaidOut (all : Sections) : Type 0 where
  pub unit : ((layout_of all).alignment ≡ 32) ⊎ ((layout_of all).alignment ≡ 4096)
  pub size : (layout_of all).size ≤ 2 ^ 20
  pub headers : 0x148 + 40 * section_count (length all.in_data.bytes) (has_sites all) ≤ (layout_of all).headers
  pub text_behind : (layout_of all).headers ≤ (layout_of all).text_from
  pub data_behind : (layout_of all).text_from + length all.in_text.bytes ≤ (layout_of all).data_from
  pub reloc_behind : (layout_of all).data_from + length all.in_data.bytes ≤ (layout_of all).reloc_from
  pub end : (layout_of all).reloc_from + length (layout_of all).table ≤ (layout_of all).size
  pub text_aligned : (layout_of all).text_from % (layout_of all).alignment ≡ 0
  pub data_aligned : (layout_of all).data_from % (layout_of all).alignment ≡ 0
  pub reloc_aligned : (layout_of all).reloc_from % (layout_of all).alignment ≡ 0
  pub text_fits : length all.in_text.bytes ≤ raw_size (layout_of all) all.in_text.bytes
  pub data_fits : length all.in_data.bytes ≤ raw_size (layout_of all) all.in_data.bytes
  pub table_fits : length (layout_of all).table ≤ raw_size (layout_of all) (layout_of all).table
  pub data_raw_is : data_raw (layout_of all) all ≡ (layout_of all).headers + raw_size (layout_of all) all.in_text.bytes
  pub reloc_raw_is : reloc_raw (layout_of all) all ≡ data_raw (layout_of all) all + raw_size (layout_of all) all.in_data.bytes
