-- What C is told about a word's form.
use Rattle.text_forms.specs.declared.word.Form.{Form}
use Rattle.text_forms.specs.declared.word.Form.TheVariants.{Inline, Static, Dynamic}
use Rattle.string_cache_c.specs.declared.forms.ScForm.{ScForm}

-- kind 0 is inline, 1 static, 2 dynamic; what a kind doesn't have is 0
abbrev pub told : Form → ScForm
told (Inline text) = record { kind = 0; bucket = 0; index = 0; serial = 0 }
told (Static index) = record { kind = 1; bucket = 0; index = index; serial = 0 }
told (Dynamic serial bucket) = record { kind = 2; bucket = bucket; index = 0; serial = serial }
