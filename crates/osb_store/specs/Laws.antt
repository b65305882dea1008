-- The laws of stores.
use Rattle.std.specs.Prelude.{◌≡◌, ◌^◌, ◌<◌, length}
use Rattle.osb_store.specs.Rules.{IsStore}
use Rattle.osb_store.specs.Texts.{store_text}
use Rattle.osb_store.specs.declared.stores.Store.{Store}

-- stores of one text, shorter than 2^64 bytes, are one store
abbrev pub StoresHaveOneText : Type 0
StoresHaveOneText = (store other : Store) → IsStore store → IsStore other → length (store_text store) < 2 ^ 64 → store_text store ≡ store_text other → store ≡ other
