-- The tables of tags.
use Rattle.std.specs.Prelude.{[], ◌∷◌, codes}
use Rattle.text_forms.specs.Tables.{Tables}

-- what `TAGS` holds
abbrev pub tag_tables : Tables
tag_tables = record {
  key = 0;
  disps = (1, 0) ∷ (0, 1) ∷ [];
  atoms = codes "figcaption" ∷ codes "table" ∷ codes "textarea" ∷ codes "colgroup" ∷ codes "blockquote" ∷ codes "template" ∷ [];
  hashes = 0x5083_f794_76e2_d47d ∷ 0xc864_a048_a605_0d03 ∷ 0x0ccd_a95b_919a_5e9c ∷ 0xc212_cb28_033e_5d8c ∷ 0xfe8e_a144_fd65_76c8 ∷ 0xf50d_b3d0_c04b_0e2c ∷ [];
}
