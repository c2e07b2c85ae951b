pub mod Laws
pub mod PackedLaws
