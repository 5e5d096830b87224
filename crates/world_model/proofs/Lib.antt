pub mod FewOutstanding
