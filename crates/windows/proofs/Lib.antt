pub mod LeastLaws
pub mod Laws
