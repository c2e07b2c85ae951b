pub mod Laws
pub mod SpanLaws
